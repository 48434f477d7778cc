-- Numbers of states: what a product of two of them bounds, and how pairs go on. Assumes nothing.
use mathlib.Core.Path.{◌≡◌, sym}
use Prim.Native.Nat.{ℕ, zero, suc, ◌+◌, ◌*◌, ◌<◌, ◌≤◌}
use native.Mathlib.Nat.{mul-le-mul, mul-le-mul_right, suc-mul}
use native.Mathlib.Numerals.{add-one}
use native.Mathlib.Omega.{arith}

-- q * m and m more, for a q below n
pub next_in_lem : (q n m : ℕ) → q < n → q * m + m ≤ n * m
next_in_lem q n m h =
    let e : suc q * m ≡ q * m + m = suc-mul q m in
    let l : suc q * m ≤ n * m = mul-le-mul_right m h in
    omega arith

pub next_at_lem : (q m : ℕ) → q * m + m ≡ (q + 1) * m
next_at_lem q m = rw add-one (sym (suc-mul q m))

-- either factor is at most the product
pub few_left : (n m : ℕ) → 1 ≤ m → n ≤ n * m
few_left n zero h = absurd (omega arith)
few_left zero (suc m) h = omega arith
few_left (suc n) (suc m) h =
    let l = few_left n (suc m) h in
    let e : suc n * suc m ≡ n * suc m + suc m = suc-mul n (suc m) in
    omega arith

pub few_right : (n m : ℕ) → 1 ≤ n → m ≤ n * m
few_right zero m h = absurd (omega arith)
few_right (suc n) m h = let e : suc n * m ≡ n * m + m = suc-mul n m in omega arith

-- the members of a pair are below what bounds the product
module _ (n m x y : ℕ) (hx : x < n) (hy : y < m) (most : n * m ≤ 32) where
  pub small_left : x < 32
  small_left = let l : n ≤ n * m = few_left n m (omega arith) in omega arith

  pub small_right : y < 32
  small_right = let l : m ≤ n * m = few_right n m (omega arith) in omega arith

pub product_most : (n1 n2 : ℕ) → n1 ≤ 32 → n2 ≤ 32 → n1 * n2 ≤ 1024
product_most n1 n2 h l = mul-le-mul h l
