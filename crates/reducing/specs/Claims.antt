-- What is claimed of reducing, for rules worked by hand and for every value; proofs/Claims.antt
-- proves it.
--
--   Nothing a        the automaton accepts no text
--   empty_rule k     one state, no arcs, no initial and no final state
--   Lean r           every state is reached from an initial state, every state is live, no two are
--                    alike
--   Reachable r x    some text leads from an initial state to x
--   Stands r q x     x stands for q: q is live, and x is the lowest reachable state alike to it
--   Renumbered r n   what each number of the new rule n is, in words of the rule r: old p is the
--                    old number of the new state p
--   Becomes r n      the rule r becomes n: one state where r accepts no text; else n is a checked
--                    value with the symbols of r, of which every state is reached, renumbered so
--   Due r m          m is the answer that is due: the number of r's installation, with zeros; or a
--                    rule that r becomes, and whether that one installs
--   ReduceLaw r      all that is promised of reducing the value r
use Rattle.std.specs.Prelude.{◌≡◌, ◌↔◌, ◌⊎◌, Bool, true, false, cond, List, ℕ, ◌≤◌, ◌<◌, length, replicate}
use Rattle.std.proofs.Math.Option.{Option, none, some}
use Rattle.limits.specs.Limits.{target_cells}
use Rattle.automaton.specs.declared.Rule.{Rule}
use Rattle.automaton.specs.Automaton.{Automaton, Arc, Accepts, Equivalent}
use Rattle.automaton.specs.Rules.{automaton_of, WellFormed}
use Rattle.automaton.specs.Successor.{Reached}
use Rattle.rulecheck.specs.Checking.{rule_number}
use Rattle.ruleformat.specs.Claims.{AllZero}
use Rattle.delegates.specs.Alike.{AcceptsFrom, Alike, Live}
use Rattle.calls.specs.Calls.{install_number}
use Rattle.reducing.specs.Reducing.{Reducing, refused_by, reduce_of}
use Rattle.reducing.specs.Worked.{few_sets, reductions, Answered}

abbrev pub Nothing : Automaton → Type 0
Nothing a = (w : List ℕ) → Accepts a w → ⊥

abbrev pub empty_rule : ℕ → Rule
empty_rule k = record { n = 1; k = k; initials = 0; finals = 0; targets = replicate target_cells 0 }

abbrev pub Reachable : Rule → ℕ → Type 0
Reachable r x = (w : List ℕ) × Reached (automaton_of r) r.initials w x

pub record Stands (r : Rule) (q x : ℕ) : Type 0 where
  pub live : Live (automaton_of r) q
  pub reachable : Reachable r x
  pub alike : Alike (automaton_of r) q x
  pub lowest : (p : ℕ) → Reachable r p → Alike (automaton_of r) q p → x ≤ p

pub record Lean (r : Rule) : Type 0 where
  pub reached : (p : ℕ) → p < r.n → Reachable r p
  pub live : (p : ℕ) → p < r.n → Live (automaton_of r) p
  pub distinct : (p q : ℕ) → p < r.n → q < r.n → Alike (automaton_of r) p q → p ≡ q

pub record Renumbered (r n : Rule) : Type 0 where
  pub old : ℕ → ℕ
  -- it stands for itself: it is reachable, live, and the lowest of the reachable states alike to it
  pub own : (p : ℕ) → p < n.n → Stands r (old p) (old p)
  -- states keep their order
  pub rises : (p q : ℕ) → p < q → q < n.n → old p < old q
  -- initial where it stands for an initial state, final where it was final
  pub initial : (p : ℕ) → p < n.n → (automaton_of n).Initial p ↔ (q : ℕ) × ((automaton_of r).Initial q) × Stands r q (old p)
  pub final : (p : ℕ) → p < n.n → (automaton_of n).Final p ↔ (automaton_of r).Final (old p)
  -- an arc leads to what stands for where it led
  pub arc : (p s q : ℕ) → p < n.n → q < n.n → Arc (automaton_of n) p s q
      ↔ (t : ℕ) × Arc (automaton_of r) (old p) s t × Stands r t (old q)
  -- what stands for an initial state, or for where an arc leads, is there
  pub first_there : (q x : ℕ) → (automaton_of r).Initial q → Stands r q x → (p : ℕ) × (p < n.n) × (old p ≡ x)
  pub next_there : (p s t x : ℕ) → p < n.n → Arc (automaton_of r) (old p) s t → Stands r t x → (q : ℕ) × (q < n.n) × (old q ≡ x)
  -- it accepts what it did
  pub accepts : (p : ℕ) (w : List ℕ) → p < n.n → AcceptsFrom (automaton_of n) p w ↔ AcceptsFrom (automaton_of r) (old p) w

pub record Anew (r n : Rule) : Type 0 where
  pub cells : length n.targets ≡ target_cells
  pub good : WellFormed n
  pub symbols : n.k ≡ r.k
  pub reached : (p : ℕ) → p < n.n → Reachable n p
  pub renumbered : Renumbered r n

abbrev pub Becomes : Rule → Rule → Type 0
Becomes r n = (Nothing (automaton_of r) × (n ≡ empty_rule r.k)) ⊎ ((w : List ℕ) × Accepts (automaton_of r) w × Anew r n)

abbrev pub DueBy : Option ℕ → Rule → Bool → Rule → Type 0
DueBy none r installs n = Becomes r n × ((installs ≡ true) ↔ (install_number n ≡ none))
DueBy (some x) r installs n = AllZero n × (installs ≡ false)

abbrev pub Due : Rule → Reducing → Type 0
Due r m = (m.number ≡ install_number r) × DueBy m.number r m.installs m.rule

pub record ReduceLaw (r : Rule) : Type 0 where
  -- refused as its installation is, with zeros then
  pub number : (reduce_of r).number ≡ install_number r
  pub zeros : (x : ℕ) → (reduce_of r).number ≡ some x → AllZero (reduce_of r).rule × ((reduce_of r).installs ≡ false)
  -- else a checked rule, with the same symbols and no more states
  pub checked : (reduce_of r).number ≡ none → rule_number (reduce_of r).rule ≡ none
  pub cells : length (reduce_of r).rule.targets ≡ target_cells
  pub symbols : (reduce_of r).number ≡ none → (reduce_of r).rule.k ≡ r.k
  pub fewer : (reduce_of r).number ≡ none → (reduce_of r).rule.n ≤ r.n
  -- the answer says whether that rule installs; a rule that is refused does not
  pub installs_exactly : ((reduce_of r).installs ≡ true) ↔ (install_number (reduce_of r).rule ≡ none)
  -- it accepts the same texts
  pub language : (reduce_of r).number ≡ none → Equivalent (automaton_of (reduce_of r).rule) (automaton_of r)
  -- where some text is accepted, every state is reached, every state is live, and no two are alike
  pub lean : (reduce_of r).number ≡ none → (w : List ℕ) → Accepts (automaton_of r) w → Lean (reduce_of r).rule
  pub renumbered : (reduce_of r).number ≡ none → (w : List ℕ) → Accepts (automaton_of r) w → Renumbered r (reduce_of r).rule
  -- and no other value is so made: the words fix every number of it
  pub only : (reduce_of r).number ≡ none → (w : List ℕ) → Accepts (automaton_of r) w
      → (n : Rule) → length n.targets ≡ target_cells → WellFormed n → n.k ≡ r.k
      → ((p : ℕ) → p < n.n → Reachable n p) → Renumbered r n → n ≡ (reduce_of r).rule
  -- where none is, one state is left
  pub nothing : (reduce_of r).number ≡ none → Nothing (automaton_of r) → (reduce_of r).rule ≡ empty_rule r.k
  -- a rule that is lean is reduced already
  pub lean_stays : length r.targets ≡ target_cells → Lean r → (reduce_of r).number ≡ none → (reduce_of r).rule ≡ r
  -- what is reduced is reduced already, where it is not refused: only 9 can refuse it
  pub again : (reduce_of r).number ≡ none → (reduce_of (reduce_of r).rule).number ≡ none
      → (reduce_of (reduce_of r).rule).rule ≡ (reduce_of r).rule
  pub again_number : (reduce_of r).number ≡ none → (x : ℕ) → (reduce_of (reduce_of r).rule).number ≡ some x → x ≡ 9
  -- it is not refused exactly when it installs
  pub again_exactly : ((reduce_of (reduce_of r).rule).number ≡ none) ↔ ((reduce_of r).installs ≡ true)

pub record Claims : Type 0 where
  -- rules reduced by hand, and refusals at the edges
  pub answered : Answered reductions
  -- a rule that installs, though what it is reduced to has too many sets
  pub more_sets : (install_number few_sets ≡ none) × (install_number (reduce_of few_sets).rule ≡ some 9)
  -- reducing any value
  pub reducing : (r : Rule) → ReduceLaw r
  -- all of it in one: the answer is the one that is due, and no other is
  pub exactly : (r : Rule) (m : Reducing) → (reduce_of r ≡ m) ↔ Due r m
  -- reduced once more, the whole answer is the same where the reduced rule installs, else 9
  pub again_whole : (r : Rule) → (reduce_of r).number ≡ none
      → reduce_of (reduce_of r).rule ≡ cond (reduce_of r).installs (reduce_of r) (refused_by 9)
