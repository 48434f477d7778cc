-- Which number two rules have before the search: the first rule's, else the second's, else 36.
-- Assumes nothing.
--
--   pair_law        that number
--   passed          none exactly where both rules are well formed and have the same k
--   from_where      where a number comes from
use mathlib.Core.Path.{◌≡◌, sym, ap, ◌∙◌}
use mathlib.Core.Logic.{◌↔◌, ◌⊎◌, inl, inr, ⊎_elim}
use mathlib.Core.Bool.{not, cond}
use mathlib.Core.List.{[], ◌∷◌, ◌++◌}
use mathlib.Core.Option.{Option, none, some}
use Prim.Native.Nat.{ℕ}
use lib.Dec.{eqb}
use borrow.Author.Tests.{eq-eqb, ne_eqb, eqb-true, eqb-false}
use Rattle.base.specs.Conditions.{on}
use Rattle.base.proofs.Tests.{zero_one, by_test}
use Rattle.base.proofs.Conditions.{or_else, first_append, none_of, some_of}
use Rattle.automaton.specs.declared.Rule.{Rule}
use Rattle.automaton.specs.Rules.{WellFormed}
use Rattle.rulecheck.specs.Checking.{rule_conditions, rule_number}
use Rattle.rulecheck.proofs.Claims as check
use Rattle.compare.specs.Compared.{pair_number}

module _ (one two : Rule) where
  abbrev last : Option ℕ
  last = cond (not (eqb one.k two.k)) (some 36) none

  last_none : (last ≡ none) ↔ (one.k ≡ two.k)
  last_none = (
    (λ z.
        by_test (eqb one.k two.k)
        (λ e. eqb-true one.k two.k e)
        (λ e. let y : some 36 ≡ none = rw e at z in zero_one cc)),
    λ h. rw (eq-eqb one.k two.k h),
  )

  last_some : (x : ℕ) → (last ≡ some x) ↔ ((x ≡ 36) × (one.k ≡ two.k → ⊥))
  last_some x = (
    (λ z.
        by_test (eqb one.k two.k)
        (λ e. let y : none ≡ some x = rw e at z in zero_one cc)
        (λ e.
        let y : some 36 ≡ some x = rw e at z in
        let is : x ≡ 36 = cc in
        (is, eqb-false one.k two.k e))),
    λ h. rw (ne_eqb one.k two.k h.1, h.0),
  )

  pub pair_law : pair_number one two ≡ or_else (rule_number one) (or_else (rule_number two) last)
  pair_law =
      first_append (rule_conditions one) (rule_conditions two ++ (on 36 (not (eqb one.k two.k)) ∷ []))
      ∙ ap (or_else (rule_number one)) (first_append (rule_conditions two) (on 36 (not (eqb one.k two.k)) ∷ []))

  pub passed : (pair_number one two ≡ none) ↔ (WellFormed one × WellFormed two × (one.k ≡ two.k))
  passed = (
    (λ z.
        let a = (none_of (rule_number one) (or_else (rule_number two) last)).0 (sym pair_law ∙ z) in
        let b = (none_of (rule_number two) last).0 a.1 in
        (((check.claims).passes one).0 a.0, ((check.claims).passes two).0 b.0, last_none.0 b.1)),
    λ p.
        pair_law
        ∙ (none_of (rule_number one) (or_else (rule_number two) last)).1 (
          ((check.claims).passes one).1 p.0,
          (none_of (rule_number two) last).1 (((check.claims).passes two).1 p.1, last_none.1 p.2),
        ),
  )

  abbrev pub Came : ℕ → Type 0
  Came x = (rule_number one ≡ some x)
      ⊎ ((rule_number one ≡ none) × ((rule_number two ≡ some x) ⊎ ((rule_number two ≡ none) × (x ≡ 36) × (one.k ≡ two.k → ⊥))))

  pub from_where : (x : ℕ) → (pair_number one two ≡ some x) ↔ Came x
  from_where x = (
    (λ z.
        ⊎_elim
        (λ e. inl e)
        (λ e.
        inr (
          e.0,
          ⊎_elim (λ f. inl f) (λ f. let l = (last_some x).0 f.1 in inr (f.0, l.0, l.1)) ((some_of (rule_number two) last x).0 e.1),
        ))
        ((some_of (rule_number one) (or_else (rule_number two) last) x).0 (sym pair_law ∙ z))),
    λ o.
        pair_law
        ∙ (some_of (rule_number one) (or_else (rule_number two) last) x).1
        (⊎_elim
        (λ e. inl e)
        (λ e.
        inr (
          e.0,
          (some_of (rule_number two) last x).1 (⊎_elim (λ f. inl f) (λ f. inr (f.0, (last_some x).1 (f.1, f.2))) e.1),
        ))
        o),
  )
