-- The built rule of an accepted rule has the sets, the table, the delegates and M of the rule's
-- automaton; and, of an accepted file, those of the automaton in the file's bytes. Assumes nothing.
--
-- What crates/subsets and crates/delegates claim of the rule is carried over to its automaton,
-- where the successor of {q} by a text is the set of the states that a run leads to; and from there
-- to the bytes, which state the same arcs (SameArcs.antt).
use mathlib.Core.Path.{◌≡◌, refl, sym, ap, ◌∙◌, subst}
use mathlib.Core.Logic.Iff
use mathlib.Core.Logic.{◌↔◌, ◌⊎◌, inl, inr}
use mathlib.Core.Bool.{true}
use mathlib.Core.List.{List}
use mathlib.Core.Option.{none}
use Prim.Native.Nat.{ℕ, ◌≤◌, ◌<◌}
use native.Mathlib.Omega.{arith}
use lib.Dec.{eqb}
use lib.ListN.{length, get_or}
use lib.Pow.{pow-lt}
use borrow.Author.Tests.{eqb-true, eqb-false, ltb-false}
use Rattle.base.proofs.Tests.{by_test}
use Rattle.masks.specs.Masks.{single}
use Rattle.masks.proofs.Claims as masks
use Rattle.automaton.specs.declared.Rule.{Rule}
use Rattle.automaton.specs.Automaton.{Run}
use Rattle.automaton.specs.Rules.{automaton_of, WellFormed}
use Rattle.automaton.specs.Successor.{successor, after}
use Rattle.automaton.proofs.Claims as automaton
use Rattle.ruleformat.specs.Refusals.{refusal}
use Rattle.ruleformat.specs.Reader.{rule_of}
use Rattle.ruleformat.specs.Language.{automaton_in}
use Rattle.ruleformat.proofs.Claims as rulefile
use Rattle.numbering.specs.Order.{InOrder}
use Rattle.numbering.proofs.InOrder.{in_order_by}
use Rattle.subsets.specs.Sets.{too_many}
use Rattle.subsets.specs.Claims.{Reach, sets, next, fits}
use Rattle.subsets.proofs.Claims as subsets
use Rattle.delegates.proofs.Acceptance.{mask_at, cell_at}
use Rattle.build.specs.declared.Built.{Built}
use Rattle.build.specs.mirror.Building.{built_of}
use Rattle.build.proofs.Claims as build
use Rattle.calls.specs.Calls.{install_number, load_number}
use Rattle.calls.proofs.Conditions.{load_accepted}
use Rattle.histories.specs.Method.{Leads, Moves, set_at, next_at, numbered_in, TooMany, Method}
use Rattle.histories.proofs.SameArcs.{many_read, method_read}
use Rattle.histories.proofs.Steps.{accepted_rule}

-- ---- of a well-formed rule
module _ (r : Rule) (good : WellFormed r) where
  -- the successor of {q} by a text is where the runs lead
  pub leads_after : (q : ℕ) → q < r.n → (w : List ℕ) → Leads (automaton_of r) q w (after r.targets (single q) w)
  leads_after q h w p =
      Iff.trans ((automaton.claims).after_law r good (single q) p w (pow-lt h)) (
        (λ x. subst (λ (z : ℕ). Run (automaton_of r) z w p) (((masks.claims).single_members q x.from).0 x.member) x.run),
        λ x. record { from = q; member = ((masks.claims).single_members q q).1 refl; run = x },
      )

  moves_successor : (l s : ℕ) → Moves (automaton_of r) l s (successor r.targets l s)
  moves_successor l s p = (automaton.claims).successor_law r good l s p

  leads_law : (q : ℕ) → q < r.n → (w : List ℕ) (m : ℕ) → Leads (automaton_of r) q w m ↔ (after r.targets (single q) w ≡ m)
  leads_law q h w m =
      let law = leads_after q h w in (
        (λ x. (masks.claims).same (after r.targets (single q) w) m (λ p. Iff.trans (law p) ((x p).1, (x p).0))),
        λ x. subst (Leads (automaton_of r) q w) x law,
      )

  reach_law : (m : ℕ) → Reach r m ↔ (m ≡ 0 → ⊥) × (q : ℕ) × (q < r.n) × (w : List ℕ) × Leads (automaton_of r) q w m
  reach_law m = (
    (λ x. (x.some_state, x.state, x.below, x.text, (leads_law x.state x.below x.text m).1 x.leads)),
    λ x. record {
      some_state = x.0;
      state = x.1;
      below = x.2;
      text = x.3;
      leads = (leads_law x.1 x.2 x.3 m).0 x.4;
    },
  )

  pub nine_law : (too_many r.targets r.n r.k ≡ true) ↔ TooMany (automaton_of r)
  nine_law =
      Iff.trans ((subsets.claims).nine r good) (
        (λ x. (x.0, x.1, x.2, λ i b. (reach_law (get_or x.0 i 0)).0 (x.3 i b))),
        λ x. (x.0, x.1, x.2, λ i b. (reach_law (get_or x.0 i 0)).1 (x.3 i b)),
      )

-- ---- of a rule that is accepted
module _ (r : Rule) (e : install_number r ≡ none) where
  well : WellFormed r
  well = (accepted_rule r e).0

  fit : fits r
  fit = (accepted_rule r e).1

  few : length (sets r) ≤ 512
  unfolding too_many
  few = ltb-false 512 (length (sets r)) fit

  abbrev built : Built
  built = built_of r

  -- ---- the arrays
  set_at_lem : (i : ℕ) → i < length (sets r) → set_at built i ≡ get_or (sets r) i 0
  set_at_lem i h = mask_at subsets.claims r well fit i h

  next_at_lem : (i s : ℕ) → i < length (sets r) → s < r.k → next_at built i s ≡ next r i s
  next_at_lem i s h l = cell_at subsets.claims r well fit i s (omega (arith, few)) (omega (arith, well.symbols))

  -- ---- the sets
  numbered_law : (m : ℕ) → numbered_in built m ↔ Reach r m
  numbered_law m = (
    (λ x. subst (Reach r) (sym (set_at_lem x.0 x.1) ∙ x.2) ((subsets.claims).sound r well x.0 x.1)),
    λ x. let i = (subsets.claims).complete r well fit m x in (i.0, i.1, set_at_lem i.0 i.1 ∙ i.2),
  )

  -- ---- the table
  cell_law : (i s : ℕ) → i < built.setcount → s < r.k
      → ((next_at built i s < built.setcount) × Moves (automaton_of r) (set_at built i) s (set_at built (next_at built i s)))
      ⊎ ((next_at built i s ≡ 512) × Moves (automaton_of r) (set_at built i) s 0)
  cell_law i s h l =
      let cell = (subsets.claims).cell r well fit i s h l in
      let m = successor r.targets (get_or (sets r) i 0) s in
      let is : Moves (automaton_of r) (set_at built i) s m =
      subst (λ (x : ℕ). Moves (automaton_of r) x s m) (sym (set_at_lem i h)) (moves_successor r well (get_or (sets r) i 0) s) in
      by_test (eqb m 0)
      (λ t. let z = eqb-true m 0 t in inr (next_at_lem i s h l ∙ cell.0 z, subst (Moves (automaton_of r) (set_at built i) s) z is))
      (λ t.
      let c = cell.1 (eqb-false m 0 t) in
      let b : next_at built i s < built.setcount = subst (λ (x : ℕ). x < built.setcount) (sym (next_at_lem i s h l)) c.0 in
      let same : m ≡ set_at built (next_at built i s) =
      sym c.1 ∙ ap (λ (x : ℕ). get_or (sets r) x 0) (sym (next_at_lem i s h l)) ∙ sym (set_at_lem (next_at built i s) b) in
      inl (b, subst (Moves (automaton_of r) (set_at built i) s) same is))

  -- ---- the order
  in_order : InOrder r.n (Leads (automaton_of r)) (set_at built) built.setcount
  in_order =
      in_order_by r.n (λ i. get_or (sets r) i 0) (set_at built) built.setcount
      (λ i q w b l. rw (set_at_lem i b) (Iff.symm (leads_law r well q l w (get_or (sets r) i 0))))
      ((subsets.claims).ordered r well fit)

  pub method : Method (automaton_of r) (built_of r)
  method = record {
    sets = λ m. Iff.trans (numbered_law m) (reach_law r well m);
    once = λ i j h l same. (subsets.claims).once r well i j h l (sym (set_at_lem i h) ∙ same ∙ set_at_lem j l);
    order = in_order;
    table = cell_law;
    delegates = (build.claims).delegates r well fit;
  }

-- ---- of a file
pub method_bytes : (f : List ℕ) → load_number f ≡ none → Method (automaton_in f) (built_of (rule_of f))
method_bytes f e = let x = load_accepted f e in method_read f x.0 (built_of (rule_of f)) (method (rule_of f) x.1)

pub nine_bytes : (f : List ℕ) → refusal f ≡ none
    → (too_many (rule_of f).targets (rule_of f).n (rule_of f).k ≡ true) ↔ TooMany (automaton_in f)
nine_bytes f e = Iff.trans (nine_law (rule_of f) ((rulefile.claims).well_formed f e)) (many_read f e)
