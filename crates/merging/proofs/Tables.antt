-- The arcs of the result, from the masks in its table: they are those of the two automata made one.
-- Assumes two well-formed rules with the same k, and that the result has at most 32 states.
--
--   to_mask, of_mask   an arc stands in the table, and what stands in it is an arc
use mathlib.Core.Path.{◌≡◌, refl, subst}
use mathlib.Core.Logic.{◌↔◌, inl, inr, ⊎_elim}
use mathlib.Core.Bool.{cond}
use Prim.Native.Nat.{ℕ, ◌+◌, ◌-◌, ◌*◌, ◌/◌, ◌%◌, ◌^◌, ◌<◌, ◌≤◌}
use native.Mathlib.Omega.{arith}
use lib.Dec.{ltb}
use lib.Pow.{pow-lt}
use borrow.Author.Tests.{ltb-true, ltb-false, lt-ltb, le-ltb}
use Rattle.base.proofs.Tests.{by_test}
use Rattle.masks.specs.Masks.{◌∈◌, single}
use Rattle.masks.proofs.Laws.{no_member, or_cases, or_left, or_right, single_law}
use Rattle.automaton.specs.declared.Rule.{Rule}
use Rattle.automaton.specs.Automaton.{Automaton, Arc}
use Rattle.automaton.specs.Rules.{target_mask, automaton_of, WellFormed}
use Rattle.automaton.proofs.Laws.{arc_of}
use Rattle.automaton.proofs.Values.{table_law}
use Rattle.products.proofs.Numbers.{left_below, right_below, pair_below}
use Rattle.merging.specs.declared.Way.{Way}
use Rattle.merging.specs.declared.Way.TheVariants.{Both, Either, Interleaving}
use Rattle.merging.specs.Languages.{merged_by}
use Rattle.merging.specs.Merged.{states_of, pairs, targets_of, merged_of}
use Rattle.merging.proofs.Sets.{shift_law, pairs_law, wide}

-- ---- the states and symbols
pub states_of_lem : (way : Way) (one two : Rule)
    → (merged_by way (automaton_of one) (automaton_of two)).n ≡ states_of way one.n two.n
states_of_lem Both one two = refl
states_of_lem Either one two = refl
states_of_lem Interleaving one two = refl

pub symbols_of_lem : (way : Way) (one two : Rule)
    → (merged_by way (automaton_of one) (automaton_of two)).k ≡ one.k
symbols_of_lem Both one two = refl
symbols_of_lem Either one two = refl
symbols_of_lem Interleaving one two = refl

-- ---- the arcs
module _ (one two : Rule) (good1 : WellFormed one) (good2 : WellFormed two) (same : one.k ≡ two.k) where
  -- the members of a pair are states of the rules, whose rows the tables have
  row1 : (q : ℕ) → q < one.n * two.n → q / two.n < 32
  row1 q l = omega (arith, left_below one.n two.n q l, good1.states)

  row2 : (q : ℕ) → q < one.n * two.n → q % two.n < 32
  row2 q l = omega (arith, right_below one.n two.n q l, good2.states)

  -- those of a pair of which one member moves alone
  alone_law : (q s p : ℕ) → q < one.n * two.n
      → p ∈ targets_of Interleaving one.n two.n one.targets two.targets q s
      ↔ (merged_by Interleaving (automaton_of one) (automaton_of two)).Delta q s p
  alone_law q s p l =
      let x : ℕ = target_mask one.targets (q / two.n) s in
      let y : ℕ = target_mask two.targets (q % two.n) s in
      let few = good1.states.1 in
      let lx : x < 2 ^ 32 = wide one.n x few (good1.targets_below (q / two.n) s (row1 q l)) in
      let ly : y < 2 ^ two.n = good2.targets_below (q % two.n) s (row2 q l) in
      let l1 : single (q / two.n) < 2 ^ 32 =
      wide one.n (single (q / two.n)) few (pow-lt (left_below one.n two.n q l)) in
      let l2 : single (q % two.n) < 2 ^ two.n = pow-lt (right_below one.n two.n q l) in
      let left = pairs_law x (single (q % two.n)) two.n p lx l2 in
      let right = pairs_law (single (q / two.n)) y two.n p l1 ly in
      let u : ℕ = pairs x (single (q % two.n)) two.n in
      let v : ℕ = pairs (single (q / two.n)) y two.n in (
        (λ e.
            ⊎_elim
            (λ i. let r = left.0 i in inl (r.0, (single_law (q % two.n) (p % two.n)).0 r.1))
            (λ i. let r = right.0 i in inr ((single_law (q / two.n) (p / two.n)).0 r.0, r.1))
            (or_cases u v p e)),
        λ t.
            ⊎_elim
            (λ i. or_left u v p (left.1 (i.0, (single_law (q % two.n) (p % two.n)).1 i.1)))
            (λ i. or_right u v p (right.1 ((single_law (q / two.n) (p / two.n)).1 i.0, i.1)))
            t,
      )

  -- those of a state in its own rule
  own_law : (q s p : ℕ) → q < one.n + two.n
      → p ∈ targets_of Either one.n two.n one.targets two.targets q s
      ↔ (merged_by Either (automaton_of one) (automaton_of two)).Delta q s p
  own_law q s p l = (
    (λ e.
        by_test (ltb q one.n)
        (λ f.
        let i : p ∈ target_mask one.targets q s = rw f at e in
        let lq = ltb-true q one.n f in
        inl (lq, ((arc_of one good1 q s p (omega (arith, lq, good1.states)) i).target, i)))
        (λ f.
        let i : p ∈ (target_mask two.targets (q - one.n) s * 2 ^ one.n) = rw f at e in
        let r = (shift_law (target_mask two.targets (q - one.n) s) one.n p).0 i in
        inr (ltb-false q one.n f, (r.0, r.1)))),
    λ t.
        ⊎_elim
        (λ i. rw (lt-ltb q one.n i.0) i.1.1)
        (λ i. rw (le-ltb q one.n i.0)
        ((shift_law (target_mask two.targets (q - one.n) s) one.n p).1 (i.1.0, i.1.1)))
        t,
  )

  pub targets_law : (way : Way) (q s p : ℕ) → q < states_of way one.n two.n
      → p ∈ targets_of way one.n two.n one.targets two.targets q s
      ↔ (merged_by way (automaton_of one) (automaton_of two)).Delta q s p
  targets_law Both q s p l =
      pairs_law (target_mask one.targets (q / two.n) s) (target_mask two.targets (q % two.n) s) two.n p
      (wide one.n (target_mask one.targets (q / two.n) s) good1.states.1
      (good1.targets_below (q / two.n) s (row1 q l)))
      (good2.targets_below (q % two.n) s (row2 q l))
  targets_law Either q s p l = own_law q s p l
  targets_law Interleaving q s p l = alone_law q s p l

  -- a step is by a symbol, and to a state
  pub steps_in : (way : Way) (q s p : ℕ) → q < states_of way one.n two.n
      → (merged_by way (automaton_of one) (automaton_of two)).Delta q s p
      → (s < one.k) × (p < states_of way one.n two.n)
  steps_in Both q s p l t =
      let x = arc_of one good1 (q / two.n) s (p / two.n) (row1 q l) t.0 in
      let y = arc_of two good2 (q % two.n) s (p % two.n) (row2 q l) t.1 in
      (x.symbol, pair_below one.n two.n p x.target y.target)
  steps_in Either q s p l t =
      ⊎_elim
      (λ i.
      let x = arc_of one good1 q s p (omega (arith, i.0, good1.states)) i.1.1 in
      (x.symbol, omega (arith, i.1.0)))
      (λ i.
      let y = arc_of two good2 (q - one.n) s (p - one.n) (omega (arith, l, good2.states)) i.1.1 in
      (rw same y.symbol, omega (arith, i.1.0, y.target)))
      t
  steps_in Interleaving q s p l t =
      ⊎_elim
      (λ i.
      let x = arc_of one good1 (q / two.n) s (p / two.n) (row1 q l) i.0 in
      (x.symbol, pair_below one.n two.n p x.target (rw i.1 (right_below one.n two.n q l))))
      (λ i.
      let y = arc_of two good2 (q % two.n) s (p % two.n) (row2 q l) i.1 in
      (rw same y.symbol, pair_below one.n two.n p (rw i.0 (left_below one.n two.n q l)) y.target))
      t

  module _ (way : Way) (fits : states_of way one.n two.n ≤ 32) where
    abbrev size : ℕ
    size = states_of way one.n two.n

    abbrev masks : ℕ → ℕ → ℕ
    masks = targets_of way one.n two.n one.targets two.targets

    abbrev made : Automaton
    made = merged_by way (automaton_of one) (automaton_of two)

    pub to_mask : (q s p : ℕ) → Arc made q s p → p ∈ target_mask (merged_of way one two).targets q s
    to_mask q s p j =
        let lq : q < size = rw (states_of_lem way one two) at j.source in
        let ls : s < one.k = rw (symbols_of_lem way one two) at j.symbol in
        rw (table_law size masks q s fits)
        (rw (lt-ltb s 16 (omega (arith, good1.symbols)), lt-ltb q size lq)
        ((targets_law way q s p lq).1 j.there))

    pub of_mask : (q s p : ℕ) → p ∈ target_mask (merged_of way one two).targets q s → Arc made q s p
    of_mask q s p e =
        let m : p ∈ cond (ltb s 16) (cond (ltb q size) (masks q s) 0) 0 =
        subst (λ (x : ℕ). p ∈ x) (table_law size masks q s fits) e in
        by_test (ltb s 16)
        (λ f.
        let m2 : p ∈ cond (ltb q size) (masks q s) 0 = rw f at m in
        by_test (ltb q size)
        (λ g.
        let l = ltb-true q size g in
        let t = (targets_law way q s p l).0 (rw g at m2) in
        let b = steps_in way q s p l t in
        record {
          source = rw (states_of_lem way one two) l;
          symbol = rw (symbols_of_lem way one two) b.0;
          target = rw (states_of_lem way one two) b.1;
          there = t;
        })
        (λ g. absurd (no_member p (rw g at m2))))
        (λ f. absurd (no_member p (rw f at m)))
