-- The laws of numbers as text: how many digits they have, and that the digits of a number are those
-- of its tenth and one more. Assumes nothing.
use mathlib.Core.Path.{◌≡◌, refl, sym, ap, ◌∙◌}
use mathlib.Core.List.{List, [], ◌∷◌, ◌++◌}
use Prim.Native.Nat.{ℕ, zero, suc, ◌+◌, ◌/◌, ◌%◌, ◌^◌, ◌≤◌, ◌<◌}
use native.Mathlib.Nat.{pow-suc}
use native.Mathlib.Numerals.{add-one}
use native.Mathlib.Omega.{arith}
use lib.Dec.{ltb}
use lib.ListN.{length, length-append}
use borrow.Author.Tests.{lt-ltb, le-ltb, ltb-true, ltb-false}
use Rattle.base.proofs.Tests.{by_test}
use Rattle.text.specs.Numerals.{decimal_below, decimal, hex_digit, hex}

-- ---- decimal
module _ (places n : ℕ) where
  pub one_digit : n < 10 → decimal_below (suc places) n ≡ (48 + n) ∷ []
  unfolding decimal_below
  one_digit h = rw (lt-ltb n 10 h)

  pub more_digits : 10 ≤ n → decimal_below (suc places) n ≡ decimal_below places (n / 10) ++ ((48 + n % 10) ∷ [])
  unfolding decimal_below
  more_digits h = rw (le-ltb n 10 h)

tenth : (f n : ℕ) → n < 10 ^ suc f → n / 10 < 10 ^ f
tenth f n h = let p = pow-suc 10 f in omega arith

-- a place more changes nothing where there are enough
enough : (f n : ℕ) → n < 10 ^ suc f → decimal_below (suc f) n ≡ decimal_below (suc (suc f)) n
enough zero n h = one_digit 0 n h ∙ sym (one_digit 1 n h)
enough (suc f) n h =
    by_test (ltb n 10)
    (λ e. let l = ltb-true n 10 e in one_digit (suc f) n l ∙ sym (one_digit (suc (suc f)) n l))
    (λ e.
    let l = ltb-false n 10 e in
    more_digits (suc f) n l
    ∙ ap (λ (x : List ℕ). x ++ ((48 + n % 10) ∷ [])) (enough f (n / 10) (tenth (suc f) n h))
    ∙ sym (more_digits (suc (suc f)) n l))

pub decimal_more : (n : ℕ) → n < 2 ^ 64 → 10 ≤ n → decimal n ≡ decimal (n / 10) ++ ((48 + n % 10) ∷ [])
decimal_more n h l = more_digits 19 n l ∙ ap (λ (x : List ℕ). x ++ ((48 + n % 10) ∷ [])) (enough 18 (n / 10) (omega arith))

digits_most : (f places n : ℕ) → n < 10 ^ suc f → length (decimal_below places n) ≤ suc f
unfolding decimal_below
digits_most f zero n h = omega arith
digits_most zero (suc places) n h = rw (one_digit places n h) (omega arith)
digits_most (suc f) (suc places) n h =
    by_test (ltb n 10)
    (λ e. rw (one_digit places n (ltb-true n 10 e)) (omega arith))
    (λ e.
    let l = digits_most f places (n / 10) (tenth (suc f) n h) in
    rw (more_digits places n (ltb-false n 10 e), length-append (decimal_below places (n / 10)) ((48 + n % 10) ∷ [])) (omega arith))

-- a number below 10 ^ (f + 1) has at most f + 1 digits
pub decimal_most : (f n : ℕ) → n < 10 ^ suc f → length (decimal n) ≤ suc f
decimal_most f n h = digits_most f 20 n h

-- ---- hex
pub hex_none : (n : ℕ) → hex 0 n ≡ []
unfolding hex
hex_none n = refl

pub hex_more : (width n : ℕ) → hex (width + 1) n ≡ hex width (n / 16) ++ (hex_digit (n % 16) ∷ [])
unfolding hex
hex_more width n = rw add-one

pub hex_length : (width n : ℕ) → length (hex width n) ≡ width
unfolding hex
hex_length zero n = refl
hex_length (suc width) n = length-append (hex width (n / 16)) (hex_digit (n % 16) ∷ []) ∙ ap (λ (x : ℕ). x + 1) (hex_length width (n / 16)) ∙ add-one width

-- ---- how long they are
pub one_length : (n : ℕ) → n < 10 → length (decimal n) ≡ 1
one_length n h = ap length (one_digit 19 n h)

pub more_length : (n : ℕ) → n < 2 ^ 64 → 10 ≤ n → length (decimal n) ≡ length (decimal (n / 10)) + 1
more_length n h l = ap length (decimal_more n h l) ∙ length-append (decimal (n / 10)) ((48 + n % 10) ∷ [])
