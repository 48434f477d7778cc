-- The failure set is below its set, has most equal cells, and is the lowest that has so many; a cell
-- is kept or equal to the failure set's. Assumes nothing.
use mathlib.Core.Path.{◌≡◌, refl}
use mathlib.Core.Logic.{◌⊎◌, inl, inr, ⊎_elim}
use mathlib.Core.Bool.{true, false, not}
use mathlib.Core.List.{List}
use Prim.Native.Nat.{ℕ, zero, suc, ◌≤◌, ◌<◌}
use native.Mathlib.Omega.{arith}
use lib.Dec.{eqb, ltb}
use borrow.Author.Tests.{ne_eqb, eqb-true, eqb-false, ltb-true, ltb-false, not-false}
use Rattle.base.proofs.Tests.{by_test, or_left, or_right}
use Rattle.forms.specs.Form.{cell, equal_cells, best_below, failure_of, keeps}
use Rattle.forms.proofs.Picking.{below_suc}

module _ (l : List ℕ) (k t : ℕ) where
  -- one set more is better, or it is not
  next : (u : ℕ)
      → ((best_below l k t (suc u) ≡ u) × (equal_cells l k t (best_below l k t u) < equal_cells l k t u))
      ⊎ ((best_below l k t (suc u) ≡ best_below l k t u) × (equal_cells l k t u ≤ equal_cells l k t (best_below l k t u)))
  unfolding best_below
  next u =
      by_test (ltb (equal_cells l k t (best_below l k t u)) (equal_cells l k t u))
      (λ e. inl (rw e, ltb-true (equal_cells l k t (best_below l k t u)) (equal_cells l k t u) e))
      (λ e. inr (rw e, ltb-false (equal_cells l k t (best_below l k t u)) (equal_cells l k t u) e))

  pub no_more : (v : ℕ) → best_below l k t v ≤ v
  unfolding best_below
  no_more zero = omega arith
  no_more (suc v) = ⊎_elim (λ a. omega (arith, a.0)) (λ a. omega (arith, a.0, no_more v)) (next v)

  pub best_below_lem : (u : ℕ) → 0 < u → best_below l k t u < u
  best_below_lem zero h = absurd (omega arith)
  best_below_lem (suc u) h = ⊎_elim (λ a. omega (arith, a.0)) (λ a. omega (arith, a.0, no_more u)) (next u)

  pub best_most : (u v : ℕ) → v < u → equal_cells l k t v ≤ equal_cells l k t (best_below l k t u)
  best_most zero v h = absurd (omega arith)
  best_most (suc u) v h =
      ⊎_elim
      (λ a. rw a.0 (below_suc v u h (λ q. rw q (omega arith)) (λ b. omega (arith, a.1, best_most u v b))))
      (λ a. rw a.0 (below_suc v u h (λ q. rw q a.1) (λ b. best_most u v b)))
      (next u)

  pub best_lowest : (u v : ℕ) → v < best_below l k t u → equal_cells l k t v < equal_cells l k t (best_below l k t u)
  unfolding best_below
  best_lowest zero v h = absurd (omega arith)
  best_lowest (suc u) v h =
      ⊎_elim
      (λ a. rw a.0 (omega (arith, a.1, best_most u v (omega (arith, a.0)))))
      (λ a. rw a.0 (best_lowest u v (omega (arith, a.0))))
      (next u)

pub first_keeps : (l : List ℕ) (k s : ℕ) → keeps l k 0 s ≡ true
unfolding keeps
first_keeps l k s = refl

-- a set above 0 keeps exactly the cells that are not equal to the failure set's
pub differs : (l : List ℕ) (k t s : ℕ) → 0 < t → keeps l k t s ≡ not (eqb (cell l t s) (cell l (failure_of l k t) s))
unfolding keeps
differs l k t s h = rw (ne_eqb t 0 (λ e. absurd (omega arith)))

-- a cell that is left out is not set 0's, and is equal to the failure set's
pub left_out : (l : List ℕ) (k t s : ℕ) → keeps l k t s ≡ false → (0 < t) × (cell l t s ≡ cell l (failure_of l k t) s)
unfolding keeps
left_out l k t s e =
    let differs = not (eqb (cell l t s) (cell l (failure_of l k t) s)) in (
      omega (arith, eqb-false t 0 (or_left (eqb t 0) differs e)),
      eqb-true (cell l t s) (cell l (failure_of l k t) s)
          (not-false (eqb (cell l t s) (cell l (failure_of l k t) s)) (or_right (eqb t 0) differs e)),
    )
