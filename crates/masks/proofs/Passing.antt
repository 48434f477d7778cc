-- The mask of the numbers that pass a test: its members, its bits and its bound, and one number more,
-- which passes (mask-add) or does not (mask-skip). Assumes nothing.
use mathlib.Core.Path.{◌≡◌, refl, sym, ap, ◌∙◌}
use mathlib.Core.Logic.{⊎_elim}
use mathlib.Core.Bool.{Bool, true, false, cond}
use Prim.Native.Nat.{ℕ, zero, suc, ◌+◌, ◌<◌, ◌^◌}
use native.Mathlib.Nat.{eq-or-lt_of_le, le_of_suc-le-suc}
use native.Mathlib.Numerals.{add-one}
use native.Mathlib.Omega.{arith}
use lib.Bits.{bit_or, or_zero_r}
use Rattle.base.proofs.Tests.{same_truth}
use Rattle.masks.specs.Masks.{◌∈◌, has, single, mask_of}
use Rattle.masks.proofs.Laws.{no_member, has_member, member_of, or_cases, or_left, or_right, single_law, below_law}

last_bit : (k s : ℕ) (b : Bool) → s ∈ cond b (single k) 0 → (s ≡ k) × (b ≡ true)
last_bit k s true e = ((single_law k s).0 e, refl)
last_bit k s false e = absurd (no_member s e)

module _ (p : ℕ → Bool) where
  pub mask_in : (k s : ℕ) → s ∈ mask_of p k → (s < k) × (p s ≡ true)
  unfolding mask_of
  mask_in zero s e = absurd (no_member s e)
  mask_in (suc k) s e =
      ⊎_elim
      (λ l. let i = mask_in k s l in (omega arith, i.1))
      (λ r. let i = last_bit k s (p k) r in (omega (arith, i.0), ap p i.0 ∙ i.1))
      (or_cases (mask_of p k) (cond (p k) (single k) 0) s e)

  pub mask_of_lem : (k s : ℕ) → s < k → p s ≡ true → s ∈ mask_of p k
  unfolding mask_of
  mask_of_lem zero s h e = absurd (omega arith)
  mask_of_lem (suc k) s h e =
      ⊎_elim
      (λ q.
      let t : p k ≡ true = ap p (sym q) ∙ e in
      or_right (mask_of p k) (cond (p k) (single k) 0) s (rw t ((single_law k s).1 q)))
      (λ b. or_left (mask_of p k) (cond (p k) (single k) 0) s (mask_of_lem k s b e))
      (eq-or-lt_of_le (le_of_suc-le-suc h))

  pub mask_has : (k s : ℕ) → s < k → has (mask_of p k) s ≡ p s
  mask_has k s h =
      same_truth (has (mask_of p k) s) (p s)
      ((λ e. (mask_in k s (member_of (mask_of p k) s e)).1), λ e. has_member (mask_of p k) s (mask_of_lem k s h e))

  pub mask_lt : (k : ℕ) → mask_of p k < 2 ^ k
  mask_lt k = (below_law k (mask_of p k)).1 (λ q e. (mask_in k q e).0)

-- one number more
module _ (p : ℕ → Bool) (s mask : ℕ) (is : mask ≡ mask_of p s) where
  pub mask_add : p s ≡ true → bit_or mask (single s) ≡ mask_of p (s + 1)
  unfolding mask_of
  mask_add e = rw (add-one, e, is)

  pub mask_skip : p s ≡ false → mask ≡ mask_of p (s + 1)
  unfolding mask_of
  mask_skip e = rw (add-one, e, or_zero_r) is
