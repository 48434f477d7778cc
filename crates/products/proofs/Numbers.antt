-- Pairs as numbers: the pair (x, y) with y below n is x * n + y. Assumes nothing.
--
--   left_of, right_of         the members of a pair
--   left_below, right_below   those of a number below m * n are below m and n
--   pair_below                and the other way round
--   rest_of                   the second member is what the first leaves
use mathlib.Core.Path.{◌≡◌, ap, ◌∙◌}
use Prim.Native.Nat.{ℕ, zero, suc, ◌+◌, ◌-◌, ◌*◌, ◌/◌, ◌%◌, ◌<◌}
use native.Mathlib.Nat.{mod-lt, mod-eq_of_lt, div-eq_of_lt, mul-add-div_right, mul-add-mod_self_right, div-lt_iff_lt-mul, div-add-mod', mul-zero}
use native.Mathlib.Omega.{arith}

pub left_of : (n x y : ℕ) → y < n → (x * n + y) / n ≡ x
left_of n x y h =
    let p : 0 < n = omega arith in
    let z : y / n ≡ 0 = div-eq_of_lt h in
    mul-add-div_right p x y ∙ ap (λ (t : ℕ). x + t) z ∙ omega arith

pub right_of : (n x y : ℕ) → y < n → (x * n + y) % n ≡ y
right_of n x y h = mul-add-mod_self_right x n y ∙ mod-eq_of_lt h

pos_of : (m n q : ℕ) → q < m * n → 0 < n
pos_of m zero q h = absurd (omega (arith, mul-zero m))
pos_of m (suc n) q h = omega arith

pub left_below : (m n q : ℕ) → q < m * n → q / n < m
left_below m n q h = (div-lt_iff_lt-mul (pos_of m n q h)).1 h

pub right_below : (m n q : ℕ) → q < m * n → q % n < n
right_below m n q h = mod-lt q (pos_of m n q h)

pub pair_below : (m n q : ℕ) → q / n < m → q % n < n → q < m * n
pair_below m n q h l = let p : 0 < n = omega arith in (div-lt_iff_lt-mul p).0 h

pub rest_of : (n q : ℕ) → q % n ≡ q - q / n * n
rest_of n q = omega (arith, div-add-mod' q n)
