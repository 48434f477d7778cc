-- The failure set in other words: of the sets below, the lowest that differs in the fewest symbols,
-- one for each bit of the mask. Assumes nothing.
use mathlib.Core.Path.{◌≡◌, refl, ap, ◌∙◌}
use mathlib.Core.Bool.{Bool, true, false, cond, not}
use mathlib.Core.List.{List}
use Prim.Native.Nat.{ℕ, zero, suc, ◌+◌, ◌-◌, ◌≤◌, ◌<◌}
use native.Mathlib.Omega.{arith}
use lib.Dec.{eqb}
use borrow.Author.Tests.{eqb-true, eqb-false}
use Rattle.base.specs.Totals.{total}
use Rattle.base.proofs.Tests.{by_test}
use Rattle.base.proofs.Totals.{total_same, total_rest}
use Rattle.limits.specs.Limits.{most_symbols}
use Rattle.masks.specs.Masks.{bit, has}
use Rattle.masks.proofs.Passing.{mask_in, mask_has}
use Rattle.masks.proofs.Turns.{bit_lt}
use Rattle.forms.specs.Form.{cell, equal_cells, failure_of, keeps, kept_mask}
use Rattle.forms.specs.Claims.{differences, bits}
use Rattle.forms.proofs.Failure.{no_more, best_most, best_lowest, differs}

-- those that pass a test, and those that do not
both_ways : (p : ℕ → Bool) (n : ℕ) → total (λ s. cond (p s) 1 0) n + total (λ s. cond (p s) 0 1) n ≡ n
unfolding total
both_ways p zero = refl
both_ways p (suc n) =
    let h = both_ways p n in
    by_test (p n) (λ e. rw e (omega arith)) (λ e. rw e (omega arith))

-- a bit, by the test of it
bit_by_lem : (m s : ℕ) → bit m s ≡ cond (has m s) 1 0
bit_by_lem m s =
    by_test (has m s) (λ e. rw e (eqb-true (bit m s) 1 e))
    (λ e. rw e (omega (arith, bit_lt m s, eqb-false (bit m s) 1 e)))

swapped : (b : Bool) → ◌≡◌ {A = ℕ} (cond (not b) 1 0) (cond b 0 1)
swapped true = refl
swapped false = refl

module _ (l : List ℕ) (k t : ℕ) where
  pub not_different : (u : ℕ) → equal_cells l k t u + differences l k t u ≡ k
  not_different u = both_ways (λ s. eqb (cell l t s) (cell l u s)) k

  kept_bit : (s : ℕ) → 0 < t → s < k → bit (kept_mask l k t) s ≡ cond (eqb (cell l t s) (cell l (failure_of l k t) s)) 0 1
  kept_bit s above h =
      bit_by_lem (kept_mask l k t) s
      ∙ ap (λ (b : Bool). cond b 1 0) (mask_has (keeps l k t) k s h ∙ differs l k t s above)
      ∙ swapped (eqb (cell l t s) (cell l (failure_of l k t) s))

  no_bit : (s : ℕ) → k ≤ s → bit (kept_mask l k t) s ≡ 0
  no_bit s h =
      by_test (eqb (bit (kept_mask l k t) s) 1)
      (λ e. absurd (omega (arith, (mask_in (keeps l k t) k s (eqb-true (bit (kept_mask l k t) s) 1 e)).0)))
      (λ e. omega (arith, bit_lt (kept_mask l k t) s, eqb-false (bit (kept_mask l k t) s) 1 e))

  pub kept_differ : k ≤ most_symbols → 0 < t → bits (kept_mask l k t) ≡ differences l k t (failure_of l k t)
  kept_differ narrow above =
      let wide : most_symbols ≡ (most_symbols - k) + k = omega arith in
      ap (total (bit (kept_mask l k t))) wide
      ∙ total_rest (bit (kept_mask l k t)) (most_symbols - k) k no_bit
      ∙ total_same (bit (kept_mask l k t)) (λ s. cond (eqb (cell l t s) (cell l (failure_of l k t) s)) 0 1) k (λ s. kept_bit s above)

  pub fewest : (u : ℕ) → k ≤ most_symbols → u < t → bits (kept_mask l k t) ≤ differences l k t u
  fewest u narrow h =
      omega (
        arith,
        kept_differ narrow (omega arith),
        best_most l k t t u h,
        not_different u,
        not_different (failure_of l k t),
      )

  pub lowest_fewest : (u : ℕ) → k ≤ most_symbols → u < failure_of l k t → bits (kept_mask l k t) < differences l k t u
  lowest_fewest u narrow h =
      let above : 0 < t = omega (arith, no_more l k t t) in
      omega (arith, kept_differ narrow above, best_lowest l k t t u h, not_different u, not_different (failure_of l k t))
