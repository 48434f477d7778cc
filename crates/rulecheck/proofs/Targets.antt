-- The laws of condition 8: what a bad target mask is, by the kind of its cell and in words, and
-- that no cell is bad exactly where every target mask is as in a well-formed rule. Assumes nothing.
--
--   kept_cell_lem, own_cell  the test of a mask that is kept for a state or symbol outside n or k, and
--                         of any other
--   bad_law, good_law     what the test says, and what it says where it fails
--   cell_mask             a cell is the target mask of its state and symbol
--   targets_law           no cell is bad
--   stray_law             some cell is bad
use mathlib.Core.Path.{◌≡◌, refl, sym, ap, ap₂, ◌∙◌}
use mathlib.Core.Logic.{◌↔◌, ◌⊎◌, inl, inr, ⊎_elim}
use mathlib.Core.Bool.{Bool, true, false, not, ◌||◌, ◌&&◌}
use mathlib.Core.List.{List}
use Prim.Native.Nat.{ℕ, ◌+◌, ◌*◌, ◌/◌, ◌%◌, ◌^◌, ◌≤◌, ◌<◌}
use native.Mathlib.Omega.{arith}
use lib.Dec.{ltb, leb, eqb}
use lib.ListN.{get_or}
use lib.Pow.{pow_pos}
use borrow.Author.Tests.{lt-ltb, le-ltb, ltb-true, ltb-false, le-leb, lt-leb, leb-true, leb-false, eq-eqb, ne_eqb, eqb-true, not-false}
use Rattle.base.proofs.Tests.{by_test, not_both, or_either, or_left}
use Rattle.base.proofs.Conditions.{any_at, any_found, none_at, none_all}
use Rattle.automaton.specs.declared.Rule.{Rule}
use Rattle.automaton.specs.Rules.{cell_of, target_mask}
use Rattle.rulecheck.specs.Checking.{beyond, bad_target, bad_cell, bad_targets}
use Rattle.rulecheck.specs.Claims.{Stray}

-- ---- one mask
or-true : (t : Bool) → (t || true) ≡ true
or-true true = refl
or-true false = refl

or-false : (t : Bool) → (t || false) ≡ t
or-false true = refl
or-false false = refl

module _ (n k q s : ℕ) where
  abbrev Kept : Type 0
  Kept = (n ≤ q) ⊎ (k ≤ s)

  kept_true : Kept → (leb n q || leb k s) ≡ true
  kept_true o =
      or_either (leb n q) (leb k s) (⊎_elim (λ l. inl (le-leb n q l)) (λ l. inr (le-leb k s l)) o)

  pub kept_cell_lem : (m : ℕ) → Kept → bad_target n k q s m ≡ not (eqb m 0)
  kept_cell_lem m o =
      rw (kept_true o)
      (by_test (eqb m 0)
      (λ e. rw (e, or-false (beyond n m))
      (lt-leb (2 ^ n) m (omega (arith, eqb-true m 0 e, pow_pos n))))
      (λ e. rw (e, or-true (beyond n m))))

  pub own_cell : (m : ℕ) → q < n → s < k → bad_target n k q s m ≡ beyond n m
  own_cell m hq hs = rw (lt-leb n q hq, lt-leb k s hs, or-false (beyond n m))

  -- a mask within the states, which is 0 where it is kept
  abbrev Good : ℕ → Type 0
  Good m = (m < 2 ^ n) × (Kept → m ≡ 0)

  pub good_law : (m : ℕ) → (bad_target n k q s m ≡ false) ↔ Good m
  good_law m = (
    (λ e. (
      leb-false (2 ^ n) m (or_left (beyond n m) ((leb n q || leb k s) && not (eqb m 0)) e),
      λ o. eqb-true m 0 (not-false (eqb m 0) (sym (kept_cell_lem m o) ∙ e)),
    )),
    λ g.
        by_test (leb n q || leb k s)
        (λ t.
        let z : m ≡ 0 = g.1
        (by_test (leb n q) (λ a. inl (leb-true n q a)) (λ a. inr (leb-true k s (rw a at t)))) in
        rw (t, eq-eqb m 0 z, or-false (beyond n m)) (lt-leb (2 ^ n) m g.0))
        (λ t. rw (t, or-false (beyond n m)) (lt-leb (2 ^ n) m g.0)),
  )

  abbrev Bad : ℕ → Type 0
  Bad m = (2 ^ n ≤ m) ⊎ (Kept × (m ≡ 0 → ⊥))

  pub bad_law : (m : ℕ) → (bad_target n k q s m ≡ true) ↔ Bad m
  bad_law m = (
    (λ e.
        by_test (beyond n m)
        (λ t. inl (leb-true (2 ^ n) m t))
        (λ t.
        by_test (leb n q || leb k s)
        (λ o.
        inr (
          by_test (leb n q) (λ a. inl (leb-true n q a)) (λ a. inr (leb-true k s (rw a at o))),
          λ z. not_both e ((good_law m).1 (leb-false (2 ^ n) m t, λ x. z)),
        ))
        (λ o. not_both e (rw (t, o))))),
    λ b.
        ⊎_elim
        (λ l. rw (le-leb (2 ^ n) m l))
        (λ x. kept_cell_lem m x.0 ∙ ap not (ne_eqb m 0 x.1))
        b,
  )

-- ---- the cells
module _ (ts : List ℕ) where
  pub cell_mask : (cell : ℕ) → target_mask ts (cell / 16) (cell % 16) ≡ get_or ts cell 0
  cell_mask cell =
      let e : cell / 16 * 16 + cell % 16 ≡ cell = omega arith in
      rw (lt-ltb (cell % 16) 16 (omega arith)) (ap (λ (x : ℕ). get_or ts x 0) e)

  -- the test of the cell of a state and a symbol
  cell_test : (n k q s : ℕ) → s < 16
      → bad_cell n k ts (cell_of q s) ≡ bad_target n k q s (target_mask ts q s)
  cell_test n k q s h =
      let row : (q * 16 + s) / 16 ≡ q = omega arith in
      let col : (q * 16 + s) % 16 ≡ s = omega arith in
      ap₂ (λ (x y : ℕ). bad_target n k x y (get_or ts (cell_of q s) 0)) row col ∙ rw (lt-ltb s 16 h)

  -- past the symbols there is no target
  no_symbol : (q s : ℕ) → 16 ≤ s → target_mask ts q s ≡ 0
  no_symbol q s h = rw (le-ltb s 16 h)

  module _ (n k : ℕ) where
    good_at : bad_targets n k ts ≡ false → (q s : ℕ) → q < 32 → Good n k q s (target_mask ts q s)
    unfolding bad_targets
    good_at e q s hq =
        by_test (ltb s 16)
        (λ t.
        let hs = ltb-true s 16 t in
        (good_law n k q s (target_mask ts q s)).0
        (sym (cell_test n k q s hs) ∙ none_at (bad_cell n k ts) 512 (cell_of q s) e (omega arith)))
        (λ t. let z = no_symbol q s (ltb-false s 16 t) in (omega (arith, z, pow_pos n), λ o. z))

    all_good : ((q s : ℕ) → q < 32 → Good n k q s (target_mask ts q s)) → bad_targets n k ts ≡ false
    unfolding bad_targets
    all_good g =
        none_all (bad_cell n k ts) 512 λ cell h.
        (good_law n k (cell / 16) (cell % 16) (get_or ts cell 0)).1
        (rw (cell_mask cell) at (g (cell / 16) (cell % 16) (omega arith)))

    pub targets_law : (bad_targets n k ts ≡ false) ↔ ((q s : ℕ) → q < 32 → Good n k q s (target_mask ts q s))
    targets_law = (good_at, all_good)

-- some cell is bad
pub stray_law : (r : Rule) → (bad_targets r.n r.k r.targets ≡ true) ↔ Stray r
unfolding bad_targets
stray_law r = (
  (λ e.
      let x = any_found (bad_cell r.n r.k r.targets) 512 e in
      record {
        state = x.0 / 16;
        symbol = x.0 % 16;
        row = omega (arith, x.1);
        column = omega arith;
        bad =
            rw (cell_mask r.targets x.0)
            ((bad_law r.n r.k (x.0 / 16) (x.0 % 16) (get_or r.targets x.0 0)).0 x.2);
      }),
  λ s.
      any_at (bad_cell r.n r.k r.targets) 512 (cell_of s.state s.symbol)
      (omega (arith, s.row, s.column))
      (cell_test r.targets r.n r.k s.state s.symbol s.column
      ∙ (bad_law r.n r.k s.state s.symbol
      (target_mask r.targets s.state s.symbol)).1 s.bad),
)
