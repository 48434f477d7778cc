-- A call is refused with a number exactly when its condition is the first that holds, by what
-- stands. Assumes nothing.
--
--   number_of h c       the number that the calls h give to the call c, or none
--   refused_law        it is some x exactly when x's condition is the first that holds
--   accepted_law       it is none exactly when no condition holds
--   refusal_law        the answer refuses with x exactly then
use mathlib.Core.Path.{◌≡◌, refl, sym, ap}
use mathlib.Core.Logic.Iff
use mathlib.Core.Logic.{◌↔◌, ◌⊎◌, inl, inr, ⊎_elim}
use mathlib.Core.Bool.{Bool, true, false, cond}
use mathlib.Core.List.{List}
use mathlib.Core.Option.{Option, none, some}
use Prim.Native.Nat.{ℕ}
use lib.Dec.{eqb}
use Rattle.base.specs.Conditions.{Condition, first_of, NoneHolds, FirstHolds}
use Rattle.base.specs.Options.{is_none}
use Rattle.base.proofs.Conditions.{none_law, first_law}
use Rattle.base.proofs.Tests.{zero_one}
use Rattle.automaton.specs.Rules.{automaton_of}
use Rattle.rulecheck.specs.Checking.{rule_conditions}
use Rattle.rulecheck.proofs.Laws as rulecheck
use Rattle.ruleformat.specs.Refusals.{file_conditions, refusal}
use Rattle.ruleformat.specs.Reader.{rule_of}
use Rattle.ruleformat.specs.Language.{automaton_in}
use Rattle.calls.specs.Replies.{refused_with, waiting, yes_with, no_with, Reported, Reply, accepted, delivered, judged, refused}
use Rattle.calls.specs.Calls.{Call, installs, loads, opens, delivers, withdraws, asks_verdict, install_number, load_number, alone, report_by, with_sets}
use Rattle.calls.proofs.Conditions.{or_else, over, install_number_lem, load_number_lem}
use Rattle.histories.specs.History.{rule_there, rule_from, rule_in, places_in, open_number, deliver_number, withdraw_number, looked_of, reply_by, answer_of, empties_in, summed_in, yes_in, bytes_in}
use Rattle.histories.specs.Method.{TooMany}
use Rattle.histories.proofs.Method.{nine_law, nine_bytes}
use Rattle.histories.proofs.Conditions.{not-true, both, number_is, by_none}
use Rattle.transcripts.specs.Standing.{Source, value, file, Standing, automaton_from}
use Rattle.transcripts.specs.Answers.{conditions_of, RefusedWith, AcceptedBy, refusal_by}
use Rattle.transcripts.specs.Agreement.{rule_for, Agree}

abbrev pub number_of : List Call → Call → Option ℕ
number_of h (installs r) = install_number r
number_of h (loads f) = load_number f
number_of h (opens n) = open_number h n
number_of h (delivers p v w) = deliver_number h p v w
number_of h (withdraws p) = withdraw_number h p
number_of h asks_verdict = cond (eqb (places_in h) 0) (some 21) none

-- ---- a list of conditions, then 9
then_some : (o : Option ℕ) (t : Bool) (x : ℕ)
    → (or_else o (cond t (some 9) none) ≡ some x) ↔ ((o ≡ some x) ⊎ ((o ≡ none) × (t ≡ true) × (x ≡ 9)))
then_some none true x = ((λ e. let z : x ≡ 9 = cc in inr (refl, refl, z)), λ y. ⊎_elim (λ e. zero_one cc) (λ e. ap some (sym e.2)) y)
then_some none false x = ((λ e. zero_one cc), λ y. ⊎_elim (λ e. zero_one cc) (λ e. let z = e.1 in zero_one cc) y)
then_some (some y) t x = ((λ e. inl e), λ z. ⊎_elim (λ e. e) (λ e. let z = e.0 in zero_one cc) z)

module _ (cs : List Condition) (t : Bool) (A : Type 0) (law : NoneHolds cs → (t ≡ true) ↔ A) where
  nine_some : (x : ℕ) → (or_else (first_of cs) (cond t (some 9) none) ≡ some x) ↔ (FirstHolds x cs ⊎ (NoneHolds cs × A × (x ≡ 9)))
  nine_some x =
      Iff.trans (then_some (first_of cs) t x) (
        ⊎_elim (λ e. inl ((first_law x cs).0 e)) (λ e. let n = (none_law cs).0 e.0 in inr (n, (law n).0 e.1, e.2)),
        ⊎_elim (λ e. inl ((first_law x cs).1 e)) (λ e. inr ((none_law cs).1 e.0, (law e.0).1 e.1, e.2)),
      )

  nine_none : (or_else (first_of cs) (cond t (some 9) none) ≡ none) ↔ (NoneHolds cs × (A → ⊥))
  nine_none = Iff.trans (by_none (first_of cs) t) (both (none_law cs) (λ n. not-true t (law n)))

-- ---- without 9
no_nine_some : (cs : List Condition) (x : ℕ) → (first_of cs ≡ some x) ↔ (FirstHolds x cs ⊎ (NoneHolds cs × ⊥ × (x ≡ 9)))
no_nine_some cs x = ((λ e. inl ((first_law x cs).0 e)), ⊎_elim (λ y. (first_law x cs).1 y) (λ y. absurd y.1))

no_nine_none : (cs : List Condition) → (first_of cs ≡ none) ↔ (NoneHolds cs × (⊥ → ⊥))
no_nine_none cs = ((λ e. ((none_law cs).0 e, λ z. z)), λ y. (none_law cs).1 y.0)

-- ---- what a condition looks at
there-same : (o : Option Source) → is_none (rule_for o) ≡ is_none o
there-same none = refl
there-same (some x) = refl

symbols_same : (o : Option Source) → (rule_from (rule_for o)).k ≡ (automaton_from o).k
symbols_same none = refl
symbols_same (some (value r)) = refl
symbols_same (some (file f)) = refl

module _ (h : List Call) (s : Standing) (g : Agree h s) where
  lacks_same : is_none (rule_there h) ≡ is_none s.rule
  lacks_same = rw g.rule (there-same s.rule)

  pub k_same : (rule_in h).k ≡ (automaton_from s.rule).k
  k_same = rw g.rule (symbols_same s.rule)

  -- by the conditions of the call, then by 9
  pub refused_law : (c : Call) (x : ℕ) → (number_of h c ≡ some x) ↔ RefusedWith s c x
  unfolding refusal
  refused_law (installs r) x =
      number_is (some x) (install_number_lem r)
      (nine_some (rule_conditions r) (over r) (TooMany (automaton_of r)) (λ n. nine_law r ((rulecheck.passes r).0 ((none_law (rule_conditions r)).1 n))) x)
  refused_law (loads f) x =
      number_is (some x) (load_number_lem f)
      (nine_some (file_conditions f) (over (rule_of f)) (TooMany (automaton_in f)) (λ n. nine_bytes f ((none_law (file_conditions f)).1 n)) x)
  refused_law (opens n) x = number_is (some x) (rw lacks_same) (no_nine_some (conditions_of s (opens n)) x)
  refused_law (delivers p v w) x =
      number_is (some x) (rw (g.places, g.revision p, k_same)) (no_nine_some (conditions_of s (delivers p v w)) x)
  refused_law (withdraws p) x = number_is (some x) (rw (g.places, g.chunk p)) (no_nine_some (conditions_of s (withdraws p)) x)
  refused_law asks_verdict x = number_is (some x) (rw g.places) (no_nine_some (conditions_of s asks_verdict) x)

  pub accepted_law : (c : Call) → (number_of h c ≡ none) ↔ AcceptedBy s c
  unfolding refusal
  accepted_law (installs r) =
      number_is none (install_number_lem r)
      (nine_none (rule_conditions r) (over r) (TooMany (automaton_of r)) (λ n. nine_law r ((rulecheck.passes r).0 ((none_law (rule_conditions r)).1 n))))
  accepted_law (loads f) =
      number_is none (load_number_lem f)
      (nine_none (file_conditions f) (over (rule_of f)) (TooMany (automaton_in f)) (λ n. nine_bytes f ((none_law (file_conditions f)).1 n)))
  accepted_law (opens n) = number_is none (rw lacks_same) (no_nine_none (conditions_of s (opens n)))
  accepted_law (delivers p v w) =
      number_is none (rw (g.places, g.revision p, k_same)) (no_nine_none (conditions_of s (delivers p v w)))
  accepted_law (withdraws p) = number_is none (rw (g.places, g.chunk p)) (no_nine_none (conditions_of s (withdraws p)))
  accepted_law asks_verdict = number_is none (rw g.places) (no_nine_none (conditions_of s asks_verdict))

-- ---- the answer refuses with the number
module _ (o : Option ℕ) (x : ℕ) where
  reply_refused : (a : Reply) → ((y : ℕ) → a ≡ refused y → ⊥) → (reply_by o a ≡ refused x) ↔ (o ≡ some x)
  reply_refused a never = (to o, λ e. rw e)
    where
      to : (o : Option ℕ) → reply_by o a ≡ refused x → o ≡ some x
      to none e = absurd (never x e)
      to (some y) e = let z : y ≡ x = cc in ap some z

-- two replies to a verdict with one report have one verdict
pub same_verdict : {r q : Reported} → judged r ≡ judged q → r.verdict ≡ q.verdict
same_verdict {r} {q} e = let z : r ≡ q = cc in ap (λ (x : Reported). x.verdict) z

pub refusal_law : (h : List Call) (c : Call) (x : ℕ) → (answer_of h c ≡ refusal_by c x) ↔ (number_of h c ≡ some x)
refusal_law h (installs r) x = reply_refused (install_number r) x (with_sets r) (λ y e. zero_one cc)
refusal_law h (loads f) x = reply_refused (load_number f) x (with_sets (rule_of f)) (λ y e. zero_one cc)
refusal_law h (opens n) x = reply_refused (open_number h n) x accepted (λ y e. zero_one cc)
refusal_law h (delivers p v w) x = reply_refused (deliver_number h p v w) x (delivered (looked_of (rule_in h) p w)) (λ y e. zero_one cc)
refusal_law h (withdraws p) x = reply_refused (withdraw_number h p) x accepted (λ y e. zero_one cc)
refusal_law h asks_verdict x = of (eqb (places_in h) 0) (eqb (empties_in h) 0) (yes_in h)
  where
    of : (lacks full yes-there : Bool)
        → (judged (report_by (cond lacks (refused_with 21) (cond full (cond yes-there (yes_with (summed_in h)) (no_with (summed_in h))) (waiting (empties_in h)))) (bytes_in h)) ≡ judged (alone (refused_with x)))
        ↔ (cond lacks (some 21) none ≡ some x)
    of true full yes-there = (
      (λ e. let y : refused_with 21 ≡ refused_with x = same_verdict e in let z : 21 ≡ x = cc in ap some z),
      λ e. let z : 21 ≡ x = cc in rw z,
    )
    of false true true = ((λ e. let z : yes_with (summed_in h) ≡ refused_with x = same_verdict e in zero_one cc), λ e. zero_one cc)
    of false true false = ((λ e. let z : no_with (summed_in h) ≡ refused_with x = same_verdict e in zero_one cc), λ e. zero_one cc)
    of false false yes-there = ((λ e. let z : waiting (empties_in h) ≡ refused_with x = same_verdict e in zero_one cc), λ e. zero_one cc)
