-- The values: a value that is not zero is followed by one that is not. Each of the three steps is a
-- value and its shift, and they differ where the value is not zero. Assumes nothing.
--
--   same        two numbers that differ in no bit are equal
--   own_shift   no number but zero is its own shift, whatever the width
--   left_some, right_7   a step from a value that is not zero
--   not-zero, fits   the next value is not zero, and has 64 bits
use mathlib.Core.Path.{◌≡◌, refl, sym, ap, ap₂, ◌∙◌}
use Prim.Native.Nat.{ℕ, zero, suc, ◌+◌, ◌-◌, ◌*◌, ◌/◌, ◌%◌, ◌^◌, ◌≤◌, ◌<◌}
use native.Mathlib.Nat.{mod-lt, mul_assoc, mul-mod_left}
use native.Mathlib.Omega.{arith}
use lib.Dec.{ltb}
use lib.Pow.{pow_pos, pow-add, shl-shr, mod-pow-add}
use lib.Bits.{bit_xor, differ, xor_step, xor_lt}
use borrow.Author.Tests.{ltb-true, ltb-false}
use Rattle.base.proofs.Tests.{by_test}
use Rattle.madetexts.specs.Values.{left_by, right_by, next_value}

differ_none : (a b : ℕ) → differ a b ≡ 0 → a ≡ b
differ_none zero b e = sym e
differ_none (suc a) zero e = e
differ_none (suc a) (suc b) e = ap suc (differ_none a b e)

pub same : (n a b : ℕ) → a ≤ n → b ≤ n → bit_xor a b ≡ 0 → a ≡ b
same zero a b h l e = omega arith
same (suc n) a b h l e =
    let step = xor_step a b in
    let rest : bit_xor (a / 2) (b / 2) ≡ 0 = omega (arith, step) in
    let last : differ (a % 2) (b % 2) ≡ 0 = omega (arith, step) in
    let high : a / 2 ≡ b / 2 = same n (a / 2) (b / 2) (omega arith) (omega arith) rest in
    let low : a % 2 ≡ b % 2 = differ_none (a % 2) (b % 2) last in
    omega arith

some : (x y : ℕ) → (x ≡ y → ⊥) → 0 < bit_xor x y
some x y d = by (bit_xor x y) refl
  where
    by : (z : ℕ) → bit_xor x y ≡ z → 0 < z
    by zero e = absurd (d (same (x + y) x y (omega arith) (omega arith) e))
    by (suc z) e = omega arith

-- ---- a step: no value but zero is its own shift. The lowest bits of a shift are zero, as many as it
-- is shifted by; so are then as many bits of the value, which are the next bits of the shift.
pub own_shift : (f w k x : ℕ) → w ≤ f → 1 ≤ k → x < 2 ^ w → x ≡ (x * 2 ^ k) % 2 ^ w → x ≡ 0
own_shift zero zero k x h l b e = omega (arith, b)
own_shift zero (suc w) k x h l b e = absurd (omega arith)
own_shift (suc f) w k x h l b e =
    by_test (ltb w k)
    (λ t.
    let gap : (k - w) + w ≡ k = let d = ltb-true w k t in omega arith in
    let out : (x * 2 ^ k) % 2 ^ w ≡ 0 =
    ap (λ (n : ℕ). (x * 2 ^ n) % 2 ^ w) (sym gap)
    ∙ ap (λ (n : ℕ). (x * n) % 2 ^ w) (pow-add 2 (k - w) w)
    ∙ ap (λ (n : ℕ). n % 2 ^ w) (sym (mul_assoc x (2 ^ (k - w)) (2 ^ w)))
    ∙ mul-mod_left (x * 2 ^ (k - w)) (2 ^ w) in
    e ∙ out)
    (λ t.
    let j = w - k in
    let whole : j + k ≡ w = let d = ltb-false w k t in omega arith in
    let y = x % 2 ^ j in
    let is : x ≡ y * 2 ^ k =
    e
    ∙ ap (λ (n : ℕ). (x * 2 ^ k) % 2 ^ n) (sym whole)
    ∙ mod-pow-add (x * 2 ^ k) j k
    ∙ ap₂ (λ (m n : ℕ). m % 2 ^ j * 2 ^ k + n) (shl-shr x k) (mul-mod_left x (2 ^ k))
    ∙ omega arith in
    let none : y ≡ 0 = own_shift f j k y (omega arith) l (mod-lt x (pow_pos j)) (ap (λ (n : ℕ). n % 2 ^ j) is) in
    is ∙ ap (λ (n : ℕ). n * 2 ^ k) none ∙ omega arith)

left_some : (k x : ℕ) → 1 ≤ k → 0 < x → x < 2 ^ 64 → 0 < left_by k x
left_some k x l h b =
    some x ((x * 2 ^ k) % 2 ^ 64) (λ e. omega (arith, own_shift 64 64 k x (omega arith) l b e))

right_7 : (x : ℕ) → 0 < x → 0 < right_by 7 x
right_7 x h = some x (x / 2 ^ 7) (λ e. omega (arith, e))

left-fits : (n x : ℕ) → x < 2 ^ 64 → left_by n x < 2 ^ 64
left-fits n x h = xor_lt 64 x ((x * 2 ^ n) % 2 ^ 64) h (mod-lt (x * 2 ^ n) (omega arith))

right_fits : (x : ℕ) → x < 2 ^ 64 → right_by 7 x < 2 ^ 64
right_fits x h = xor_lt 64 x (x / 2 ^ 7) h (omega arith)

module _ (x : ℕ) (h : x < 2 ^ 64) where
  pub fits : next_value x < 2 ^ 64
  unfolding next_value
  fits = left-fits 17 (right_by 7 (left_by 13 x)) (right_fits (left_by 13 x) (left-fits 13 x h))

  pub not-zero : 0 < x → 0 < next_value x
  unfolding next_value
  not-zero l =
      left_some 17 (right_by 7 (left_by 13 x)) (omega arith) (right_7 (left_by 13 x) (left_some 13 x (omega arith) l h)) (right_fits (left_by 13 x) (left-fits 13 x h))
