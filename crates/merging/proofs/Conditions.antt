-- Which number two rules have. Assumes nothing.
--
--   last k1 k2 n    36 or 37, from the numbers of symbols and of states in the result
--   number_law      the number: the first rule's, else the second's, else 36 or 37
--   taken_exactly, of_a_rule, exactly_36, exactly_37, known
--                   number by number, of any number that is so found
use mathlib.Core.Path.{◌≡◌, sym, ap, ◌∙◌}
use mathlib.Core.Logic.{◌↔◌, ◌⊎◌, inl, inr, ⊎_elim}
use mathlib.Core.Bool.{not, cond}
use mathlib.Core.List.{◌++◌}
use mathlib.Core.Option.{Option, none, some}
use Prim.Native.Nat.{ℕ, ◌≤◌, ◌<◌}
use native.Mathlib.Omega.{arith}
use lib.Dec.{eqb, ltb}
use borrow.Author.Tests.{eq-eqb, ne_eqb, eqb-true, eqb-false, lt-ltb, le-ltb, ltb-true, ltb-false}
use Rattle.base.proofs.Tests.{zero_one, by_test}
use Rattle.base.proofs.Conditions.{or_else, first_append, none_of, some_of}
use Rattle.automaton.specs.declared.Rule.{Rule}
use Rattle.automaton.specs.Rules.{WellFormed}
use Rattle.rulecheck.specs.Checking.{rule_conditions, rule_number}
use Rattle.rulecheck.proofs.Laws.{passes, refused}
use Rattle.rulecheck.proofs.First.{rule_small}
use Rattle.merging.specs.declared.Way.{Way}
use Rattle.merging.specs.Merged.{states_of}
use Rattle.merging.specs.Merging.{pair_conditions, merge_number}
use Rattle.merging.specs.Claims.{RefusedExactly}

-- ---- 36 and 37, from the numbers of symbols and of states
module _ (k1 k2 n : ℕ) where
  abbrev pub last : Option ℕ
  last = cond (not (eqb k1 k2)) (some 36) (cond (ltb 32 n) (some 37) none)

  last_none : (last ≡ none) ↔ ((k1 ≡ k2) × (n ≤ 32))
  last_none = (
    (λ z.
        by_test (eqb k1 k2)
        (λ e.
        by_test (ltb 32 n)
        (λ f. let y : some 37 ≡ none = rw (e, f) at z in zero_one cc)
        (λ f. (eqb-true k1 k2 e, ltb-false 32 n f)))
        (λ e. let y : some 36 ≡ none = rw e at z in zero_one cc)),
    λ h. rw (eq-eqb k1 k2 h.0, le-ltb 32 n h.1),
  )

  last_some : (x : ℕ) → last ≡ some x
      → ((x ≡ 36) × (k1 ≡ k2 → ⊥)) ⊎ ((x ≡ 37) × (k1 ≡ k2) × (32 < n))
  last_some x z =
      by_test (eqb k1 k2)
      (λ e.
      by_test (ltb 32 n)
      (λ f.
      let y : some 37 ≡ some x = rw (e, f) at z in
      let same : x ≡ 37 = cc in
      inr (same, eqb-true k1 k2 e, ltb-true 32 n f))
      (λ f. let y : none ≡ some x = rw (e, f) at z in zero_one cc))
      (λ e.
      let y : some 36 ≡ some x = rw e at z in
      let same : x ≡ 36 = cc in
      inl (same, eqb-false k1 k2 e))

-- the numbers there are
abbrev pub Known : ℕ → Type 0
Known x = (x ≡ 3) ⊎ (x ≡ 4) ⊎ (x ≡ 6) ⊎ (x ≡ 8) ⊎ (x ≡ 36) ⊎ (x ≡ 37)

rule_known : (r : Rule) (x : ℕ) → rule_number r ≡ some x → Known x
rule_known r x e =
    ⊎_elim (λ i. inl i)
    (λ i. ⊎_elim (λ j. inr (inl j)) (λ j. ⊎_elim (λ k. inr (inr (inl k))) (λ k. inr (inr (inr (inl k)))) j) i)
    ((refused r).no_other x e)

-- ---- the number of two rules, and of n states in the result
module _ (number : Option ℕ) (one two : Rule) (n : ℕ)
    (law : number ≡ or_else (rule_number one) (or_else (rule_number two) (last one.k two.k n))) where
  abbrev last_of : Option ℕ
  last_of = last one.k two.k n

  pub taken_exactly : (number ≡ none) ↔ (WellFormed one × WellFormed two × (one.k ≡ two.k) × (n ≤ 32))
  taken_exactly = (
    (λ z.
        let a = (none_of (rule_number one) (or_else (rule_number two) last_of)).0 (sym law ∙ z) in
        let b = (none_of (rule_number two) last_of).0 a.1 in
        let l = (last_none one.k two.k n).0 b.1 in
        ((passes one).0 a.0, (passes two).0 b.0, l.0, l.1)),
    λ m.
        law
        ∙ (none_of (rule_number one) (or_else (rule_number two) last_of)).1 (
          (passes one).1 m.0,
          (none_of (rule_number two) last_of).1 ((passes two).1 m.1, (last_none one.k two.k n).1 (m.2, m.3)),
        ),
  )

  -- where the number comes from
  from_where : (x : ℕ) → (number ≡ some x)
      ↔ ((rule_number one ≡ some x)
      ⊎ ((rule_number one ≡ none) × ((rule_number two ≡ some x) ⊎ ((rule_number two ≡ none) × (last_of ≡ some x)))))
  from_where x = (
    (λ z.
        ⊎_elim
        (λ e. inl e)
        (λ e. inr (e.0, (some_of (rule_number two) last_of x).0 e.1))
        ((some_of (rule_number one) (or_else (rule_number two) last_of) x).0 (sym law ∙ z))),
    λ o.
        law
        ∙ (some_of (rule_number one) (or_else (rule_number two) last_of) x).1
        (⊎_elim (λ e. inl e) (λ e. inr (e.0, (some_of (rule_number two) last_of x).1 e.1)) o),
  )

  -- 36 and 37: both rules pass
  last_only : (x : ℕ) → 36 ≤ x → (number ≡ some x) ↔ (WellFormed one × WellFormed two × (last_of ≡ some x))
  last_only x h = (
    (λ z.
        ⊎_elim
        (λ e. absurd (omega (arith, rule_small one x e)))
        (λ e.
        ⊎_elim
        (λ f. absurd (omega (arith, rule_small two x f)))
        (λ f. ((passes one).0 e.0, (passes two).0 f.0, f.1))
        e.1)
        ((from_where x).0 z)),
    λ w. (from_where x).1 (inr ((passes one).1 w.0, inr ((passes two).1 w.1, w.2))),
  )

  pub of_a_rule : (x : ℕ) → x < 36 → (number ≡ some x) ↔ ((rule_number one ≡ some x) ⊎ (WellFormed one × (rule_number two ≡ some x)))
  of_a_rule x h = (
    (λ z.
        ⊎_elim
        (λ e. inl e)
        (λ e.
        ⊎_elim
        (λ f. inr ((passes one).0 e.0, f))
        (λ f.
        ⊎_elim
        (λ y. absurd (omega (arith, y.0)))
        (λ y. absurd (omega (arith, y.0)))
        (last_some one.k two.k n x f.1))
        e.1)
        ((from_where x).0 z)),
    λ o. (from_where x).1 (⊎_elim (λ e. inl e) (λ e. inr ((passes one).1 e.0, inl e.1)) o),
  )

  pub exactly_36 : (number ≡ some 36) ↔ (WellFormed one × WellFormed two × (one.k ≡ two.k → ⊥))
  exactly_36 = (
    (λ z.
        let w = (last_only 36 (omega arith)).0 z in
        ⊎_elim
        (λ y. (w.0, w.1, y.1))
        (λ y. absurd (omega (arith, y.0)))
        (last_some one.k two.k n 36 w.2)),
    λ w. (last_only 36 (omega arith)).1 (w.0, w.1, rw (ne_eqb one.k two.k w.2)),
  )

  pub exactly_37 : (number ≡ some 37) ↔ (WellFormed one × WellFormed two × (one.k ≡ two.k) × (32 < n))
  exactly_37 = (
    (λ z.
        let w = (last_only 37 (omega arith)).0 z in
        ⊎_elim
        (λ y. absurd (omega (arith, y.0)))
        (λ y. (w.0, w.1, y.1, y.2))
        (last_some one.k two.k n 37 w.2)),
    λ w. (last_only 37 (omega arith)).1 (w.0, w.1, rw (eq-eqb one.k two.k w.2, lt-ltb 32 n w.3)),
  )

  pub known : (x : ℕ) → number ≡ some x → Known x
  known x z =
      ⊎_elim
      (λ e. rule_known one x e)
      (λ e.
      ⊎_elim
      (λ f. rule_known two x f)
      (λ f.
      ⊎_elim
      (λ y. inr (inr (inr (inr (inl y.0)))))
      (λ y. inr (inr (inr (inr (inr y.0)))))
      (last_some one.k two.k n x f.1))
      e.1)
      ((from_where x).0 z)

-- ---- the number of merging
module _ (way : Way) (one two : Rule) where
  abbrev size : ℕ
  size = states_of way one.n two.n

  pub number_law : merge_number way one two ≡ or_else (rule_number one) (or_else (rule_number two) (last one.k two.k size))
  unfolding merge_number
  number_law =
      first_append (rule_conditions one) (rule_conditions two ++ pair_conditions way one two)
      ∙ ap (or_else (rule_number one)) (first_append (rule_conditions two) (pair_conditions way one two))

  pub refused_exactly : RefusedExactly way one two
  refused_exactly =
      let number = merge_number way one two in record {
        taken = (
          (λ z.
              let m = (taken_exactly number one two size number_law).0 z in
              record { first = m.0; second = m.1; same = m.2; fits = m.3 }),
          λ m. (taken_exactly number one two size number_law).1 (m.first, m.second, m.same, m.fits),
        );
        of_a_rule = of_a_rule number one two size number_law;
        number_36 = exactly_36 number one two size number_law;
        number_37 = exactly_37 number one two size number_law;
        no_other = known number one two size number_law;
      }
