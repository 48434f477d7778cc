-- The one proof of all that specs/Claims.antt claims. Assumes nothing.
use mathlib.Core.Path.{◌≡◌}
use mathlib.Core.Logic.{◌↔◌, ◌⊎◌, inl, inr, ⊎_elim}
use mathlib.Core.Option.{none, some}
use Prim.Native.Nat.{ℕ, ◌≤◌, ◌<◌}
use native.Mathlib.Omega.{arith}
use lib.Dec.{eqb, ltb}
use borrow.Author.Tests.{lt-ltb, le-ltb, eq-eqb, ne_eqb, ltb-true, ltb-false, eqb-true, eqb-false}
use Rattle.base.proofs.Tests.{by_test, zero_one}
use Rattle.madetexts.specs.Making.{made_number}
use Rattle.madetexts.specs.Claims.{Claims}
use Rattle.madetexts.proofs.Values as values
use Rattle.madetexts.proofs.Symbols as symbols

-- ---- the number of each case
module _ (k seed : ℕ) where
  few : k < 1 → made_number k seed ≡ some 4
  few h = rw (lt-ltb k 1 h)

  many : 1 ≤ k → 16 < k → made_number k seed ≡ some 4
  many a b = rw (le-ltb k 1 a, lt-ltb 16 k b)

  no_seed : 1 ≤ k → k ≤ 16 → seed ≡ 0 → made_number k seed ≡ some 41
  no_seed a b z = rw (le-ltb k 1 a, le-ltb 16 k b, eq-eqb seed 0 z)

  none_holds : 1 ≤ k → k ≤ 16 → 0 < seed → made_number k seed ≡ none
  none_holds a b z = rw (le-ltb k 1 a, le-ltb 16 k b, ne_eqb seed 0 (λ e. omega arith))

  by_case : {P : Type 0} → (k < 1 → P) → (1 ≤ k → 16 < k → P) → (1 ≤ k → k ≤ 16 → seed ≡ 0 → P) → (1 ≤ k → k ≤ 16 → 0 < seed → P) → P
  by_case f g h i =
      by_test (ltb k 1)
      (λ t. f (ltb-true k 1 t))
      (λ t.
      by_test (ltb 16 k)
      (λ s. g (ltb-false k 1 t) (ltb-true 16 k s))
      (λ s.
      by_test (eqb seed 0)
      (λ z. h (ltb-false k 1 t) (ltb-false 16 k s) (eqb-true seed 0 z))
      (λ z. i (ltb-false k 1 t) (ltb-false 16 k s) (let d = eqb-false seed 0 z in above seed d))))
    where
      above : (n : ℕ) → (n ≡ 0 → ⊥) → 0 < n
      above n d = by_test (ltb 0 n) (λ t. ltb-true 0 n t) (λ t. absurd (d (let h = ltb-false 0 n t in omega arith)))

  accepted : (made_number k seed ≡ none) ↔ ((1 ≤ k) × (k ≤ 16) × (0 < seed))
  accepted = (
    λ e.
        by_case
        (λ a. let n = few a in zero_one cc)
        (λ a b. let n = many a b in zero_one cc)
        (λ a b z. let n = no_seed a b z in zero_one cc)
        (λ a b z. (a, b, z)),
    λ h. none_holds h.0 h.1 h.2,
  )

  number_4 : (made_number k seed ≡ some 4) ↔ ((k < 1) ⊎ (16 < k))
  number_4 = (
    λ e.
        by_case
        (λ a. inl a)
        (λ a b. inr b)
        (λ a b z. let n = no_seed a b z in zero_one cc)
        (λ a b z. let n = none_holds a b z in zero_one cc),
    λ h. by_case few (λ a b. many a b) (λ a b z. ⊎_elim (λ s. absurd (omega arith)) (λ s. absurd (omega arith)) h) (λ a b z. ⊎_elim (λ s. absurd (omega arith)) (λ s. absurd (omega arith)) h),
  )

  number_41 : (made_number k seed ≡ some 41) ↔ ((1 ≤ k) × (k ≤ 16) × (seed ≡ 0))
  number_41 = (
    λ e.
        by_case
        (λ a. let n = few a in zero_one cc)
        (λ a b. let n = many a b in zero_one cc)
        (λ a b z. (a, b, z))
        (λ a b z. let n = none_holds a b z in zero_one cc),
    λ h. no_seed h.0 h.1 h.2,
  )

pub claims : Claims
claims = record {
  accepted = accepted;
  number_4 = number_4;
  number_41 = number_41;
  long = symbols.long;
  text = symbols.of_symbols;
  no_marks = symbols.no_marks;
  own_text = symbols.own_text;
  not_foreign = symbols.not_foreign;
  not-zero = λ x l h. values.not-zero x h l;
  fits = values.fits;
}
