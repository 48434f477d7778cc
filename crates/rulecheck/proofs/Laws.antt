-- The laws of the conditions of a rule: none holds exactly where the rule is well formed, and which
-- number it has otherwise. Assumes nothing.
--
--   masks_law, is_beyond    both masks are within the states; one is not
--   passes                  no condition holds
--   from_4, from_6, from_8  the conditions from the one with that number on
--   refused                 which number the rule has
use mathlib.Core.Path.{◌≡◌, refl, sym}
use mathlib.Core.Logic.Iff
use mathlib.Core.Logic.{◌↔◌, ◌⊎◌, inl, inr, ⊎_elim}
use mathlib.Core.Bool.{true, false}
use mathlib.Core.List.{List, [], ◌∷◌}
use mathlib.Core.Option.{none, some}
use Prim.Native.Nat.{ℕ, ◌^◌, ◌≤◌, ◌<◌}
use lib.Dec.{eqb}
use borrow.Author.Tests.{le-leb, lt-leb, leb-true, leb-false}
use Rattle.base.specs.Conditions.{Condition, on, first_of}
use Rattle.base.proofs.Tests.{by_test, or_either, or_neither, or_left, or_right}
use Rattle.base.proofs.Conditions.{outside_law, is_outside, none_law, first_law, named, first_here, first_past}
use Rattle.automaton.specs.declared.Rule.{Rule}
use Rattle.automaton.specs.Rules.{WellFormed}
use Rattle.rulecheck.specs.Checking.{bad_state_count, bad_symbol_count, beyond, bad_masks, bad_targets, rule_conditions, rule_number}
use Rattle.rulecheck.specs.Claims.{StatesIn, SymbolsIn, MasksIn, RefusedExactly}
use Rattle.rulecheck.proofs.Targets.{targets_law, stray_law}

-- ---- the two masks
module _ (n i f : ℕ) where
  pub masks_law : (bad_masks n i f ≡ false) ↔ ((i < 2 ^ n) × (f < 2 ^ n))
  masks_law = (
    (λ e. (
      leb-false (2 ^ n) i (or_left (beyond n i) (beyond n f) e),
      leb-false (2 ^ n) f (or_right (beyond n i) (beyond n f) e),
    )),
    λ x. or_neither (beyond n i) (beyond n f) (lt-leb (2 ^ n) i x.0) (lt-leb (2 ^ n) f x.1),
  )

  pub is_beyond : (bad_masks n i f ≡ true) ↔ ((2 ^ n ≤ i) ⊎ (2 ^ n ≤ f))
  is_beyond = (
    (λ e. by_test (beyond n i) (λ t. inl (leb-true (2 ^ n) i t))
        (λ t. inr (leb-true (2 ^ n) f (rw t at e)))),
    λ b. or_either (beyond n i) (beyond n f)
        (⊎_elim (λ l. inl (le-leb (2 ^ n) i l)) (λ l. inr (le-leb (2 ^ n) f l)) b),
  )

-- ---- none holds
pub passes : (r : Rule) → (rule_number r ≡ none) ↔ WellFormed r
passes r = (
  (λ e.
      let x = (none_law (rule_conditions r)).0 e in
      let masks = (masks_law r.n r.initials r.finals).0 x.1.1.0 in
      let good = (targets_law r.targets r.n r.k).0 x.1.1.1.0 in
      record {
        states = (outside_law 1 32 r.n).0 x.0;
        symbols = (outside_law 1 16 r.k).0 x.1.0;
        initials_below = masks.0;
        finals_below = masks.1;
        targets_below = λ q s l. (good q s l).0;
        zero_outside = λ q s l. (good q s l).1;
      }),
  λ w.
      (none_law (rule_conditions r)).1 (
        (outside_law 1 32 r.n).1 w.states,
        (
          (outside_law 1 16 r.k).1 w.symbols,
          (
            (masks_law r.n r.initials r.finals).1 (w.initials_below, w.finals_below),
            (
              (targets_law r.targets r.n r.k).1
                  (λ q s l. (w.targets_below q s l, w.zero_outside q s l)),
              tt,
            ),
          ),
        ),
      ),
)

-- ---- number by number
both : {A B C D : Type 0} → A ↔ B → C ↔ D → (A × C) ↔ (B × D)
both f g = ((λ x. (f.0 x.0, g.0 x.1)), λ x. (f.1 x.0, g.1 x.1))

module _ (r : Rule) where
  abbrev pub from_8 : List Condition
  from_8 = on 8 (bad_targets r.n r.k r.targets) ∷ []

  abbrev pub from_6 : List Condition
  from_6 = on 6 (bad_masks r.n r.initials r.finals) ∷ from_8

  abbrev pub from_4 : List Condition
  from_4 = on 4 (bad_symbol_count r.k) ∷ from_6

  past_3 : (x : ℕ) {A : Type 0} → eqb 3 x ≡ false → (first_of from_4 ≡ some x) ↔ A
      → (rule_number r ≡ some x) ↔ (StatesIn r × A)
  past_3 x other law =
      Iff.trans (first_past 3 x (bad_state_count r.n) from_4 other)
      (both (outside_law 1 32 r.n) law)

  past_4 : (x : ℕ) {A : Type 0} → eqb 4 x ≡ false → (first_of from_6 ≡ some x) ↔ A
      → (first_of from_4 ≡ some x) ↔ (SymbolsIn r × A)
  past_4 x other law =
      Iff.trans (first_past 4 x (bad_symbol_count r.k) from_6 other)
      (both (outside_law 1 16 r.k) law)

  past_6 : (x : ℕ) {A : Type 0} → eqb 6 x ≡ false → (first_of from_8 ≡ some x) ↔ A
      → (first_of from_6 ≡ some x) ↔ (MasksIn r × A)
  past_6 x other law =
      Iff.trans (first_past 6 x (bad_masks r.n r.initials r.finals) from_8 other)
      (both (masks_law r.n r.initials r.finals) law)

  pub refused : RefusedExactly r
  unfolding named
  refused = record {
    number_3 = Iff.trans (first_here 3 (bad_state_count r.n) from_4 refl) (is_outside 1 32 r.n);
    number_4 =
        past_3 4 refl
        (Iff.trans (first_here 4 (bad_symbol_count r.k) from_6 refl) (is_outside 1 16 r.k));
    number_6 =
        let here =
        Iff.trans (first_here 6 (bad_masks r.n r.initials r.finals) from_8 refl)
        (is_beyond r.n r.initials r.finals) in
        let law = past_3 6 refl (past_4 6 refl here) in
        ((λ e. let x = law.0 e in (x.0, x.1.0, x.1.1)), λ x. law.1 (x.0, (x.1, x.2)));
    number_8 =
        let here =
        Iff.trans (first_here 8 (bad_targets r.n r.k r.targets) [] refl) (stray_law r) in
        let law = past_3 8 refl (past_4 8 refl (past_6 8 refl here)) in (
          (λ e. let x = law.0 e in (x.0, x.1.0, x.1.1.0, x.1.1.1)),
          λ x. law.1 (x.0, (x.1, (x.2, x.3))),
        );
    no_other = λ x e.
        ⊎_elim (λ t. inl (sym t.1))
        (λ t.
        ⊎_elim (λ u. inr (inl (sym u.1)))
        (λ u.
        ⊎_elim (λ v. inr (inr (inl (sym v.1))))
        (λ v. ⊎_elim (λ w. inr (inr (inr (sym w.1)))) (λ w. absurd w.1) v.1)
        u.1)
        t.1)
        ((first_law x (rule_conditions r)).0 e);
  }
