-- Reading the field of a number or of bytes gives it again. Assumes nothing.
use mathlib.Core.Path.{◌≡◌, refl, ap, ◌∙◌}
use mathlib.Core.Bool.{Bool, true, ◌&&◌}
use mathlib.Core.List.{List, [], ◌∷◌, ◌++◌}
use mathlib.Core.Option.{some}
use Prim.Native.Nat.{ℕ, zero, suc, ◌+◌, ◌*◌, ◌-◌, ◌/◌, ◌%◌, ◌^◌, ◌≤◌, ◌<◌}
use native.Mathlib.Nat.{pow-suc}
use native.Mathlib.Omega.{arith}
use borrow.Author.Tests.{le-leb, lt-ltb, ltb-true, ltb-false, ne_eqb}
use lib.Dec.{leb, ltb}
use lib.ListN.{length, length-append}
use Rattle.base.proofs.Tests.{by_test}
use Rattle.text.specs.Numerals.{decimal, decimal_below, hex_digit, hex}
use Rattle.text.proofs.Digits.{one_digit, more_digits, decimal_most}
use Rattle.fields.specs.Numbers.{all_digits, value_from, parse_number}
use Rattle.fields.specs.Bytes.{hex_value, all_hex, pairs, parse_bytes}
use Rattle.fields.specs.Claims.{AllBytes, digits_of, field_of}
use Rattle.fields.proofs.Pairs.{within_so, within_high}

-- ---- one digit more
digits_more : (w : List ℕ) (c : ℕ) → 48 ≤ c → c ≤ 57 → all_digits (w ++ (c ∷ [])) ≡ all_digits w
unfolding all_digits
digits_more [] c l h = rw (le-leb 48 c l, le-leb c 57 h)
digits_more (x ∷ w) c l h = ap (λ (t : Bool). leb 48 x && (leb x 57 && t)) (digits_more w c l h)

value_more : (w : List ℕ) (v c : ℕ) → value_from v (w ++ (c ∷ [])) ≡ 10 * value_from v w + (c - 48)
unfolding value_from
value_more [] v c = refl
value_more (x ∷ w) v c = value_more w (10 * v + (x - 48)) c

record Reads (w : List ℕ) (n : ℕ) : Type 0 where
  some_digit : 1 ≤ length w
  digits : all_digits w ≡ true
  value : value_from 0 w ≡ n

reads_one : (n : ℕ) → n < 10 → Reads ((48 + n) ∷ []) n
unfolding all_digits value_from
reads_one n h = record {
  some_digit = omega arith;
  digits = rw (le-leb 48 (48 + n) (omega arith), le-leb (48 + n) 57 (omega arith));
  value = omega arith;
}

reads_more : (w : List ℕ) (n : ℕ) → Reads w (n / 10) → Reads (w ++ ((48 + n % 10) ∷ [])) n
reads_more w n r = record {
  some_digit = rw (length-append w ((48 + n % 10) ∷ [])) (omega arith);
  digits = digits_more w (48 + n % 10) (omega arith) (omega arith) ∙ r.digits;
  value = let e = value_more w 0 (48 + n % 10) in omega (arith, e, r.value);
}

reads_decimal : (f n : ℕ) → n < 10 ^ suc f → Reads (decimal_below (suc f) n) n
reads_decimal zero n h = rw (one_digit 0 n h) (reads_one n h)
reads_decimal (suc f) n h =
    by_test (ltb n 10)
    (λ e. let l = ltb-true n 10 e in rw (one_digit (suc f) n l) (reads_one n l))
    (λ e.
    let p = pow-suc 10 (suc f) in
    rw (more_digits (suc f) n (ltb-false n 10 e)) (reads_more (decimal_below (suc f) (n / 10)) n (reads_decimal f (n / 10) (omega arith))))

pub number_round_trip : (n : ℕ) → n ≤ 18446744073709551615 → parse_number (decimal n) ≡ some n
number_round_trip n h =
    let r = reads_decimal 19 n (omega arith) in
    let most = decimal_most 19 n (omega arith) in
    rw (le-leb 1 (length (decimal n)) r.some_digit, le-leb (length (decimal n)) 20 most, r.digits, r.value, le-leb n 18446744073709551615 h)

-- ---- hex digits
pub digit_again : (d : ℕ) → d < 16 → hex_value (hex_digit d) ≡ d
unfolding hex_value
digit_again d h =
    by_test (ltb d 10)
    (λ e. let l = ltb-true d 10 e in rw (e, within_so 48 57 (48 + d) (omega arith) (omega arith)) (omega arith))
    (λ e.
    let l = ltb-false d 10 e in
    rw (e, within_high 48 57 (55 + d) (omega arith), within_so 65 70 (55 + d) (omega arith) (omega arith)) (omega arith))

module _ (x : ℕ) (b : List ℕ) (h : x < 256) where
  pub two_digits : digits_of (x ∷ b) ≡ hex_digit (x / 16 % 16) ∷ hex_digit (x % 16) ∷ digits_of b
  unfolding digits_of hex
  two_digits = refl

  high : hex_value (hex_digit (x / 16 % 16)) ≡ x / 16
  high = digit_again (x / 16 % 16) (omega arith) ∙ omega arith

  low : hex_value (hex_digit (x % 16)) ≡ x % 16
  low = digit_again (x % 16) (omega arith)

  pairs_on : pairs (digits_of (x ∷ b)) ≡ x ∷ pairs (digits_of b)
  unfolding pairs
  pairs_on = rw (two_digits, high, low) (ap (λ (y : ℕ). y ∷ pairs (digits_of b)) (omega arith))

  hex_two : all_hex (digits_of (x ∷ b)) ≡ all_hex (digits_of b)
  unfolding all_hex
  hex_two = rw (two_digits, high, low, lt-ltb (x / 16) 16 (omega arith), lt-ltb (x % 16) 16 (omega arith))

  length_two : length (digits_of (x ∷ b)) ≡ 2 + length (digits_of b)
  length_two = ap length two_digits ∙ omega arith

pairs_again : (b : List ℕ) → AllBytes b → pairs (digits_of b) ≡ b
unfolding digits_of pairs
pairs_again [] a = refl
pairs_again (x ∷ b) a = pairs_on x b a.0 ∙ ap (λ (w : List ℕ). x ∷ w) (pairs_again b a.1)

hex_again : (b : List ℕ) → AllBytes b → all_hex (digits_of b) ≡ true
unfolding digits_of all_hex
hex_again [] a = refl
hex_again (x ∷ b) a = hex_two x b a.0 ∙ hex_again b a.1

length_again : (b : List ℕ) → AllBytes b → length (digits_of b) ≡ 2 * length b
unfolding digits_of
length_again [] a = refl
length_again (x ∷ b) a = let i = length_again b a.1 in length_two x b a.0 ∙ omega arith

pub bytes_round_trip : (b : List ℕ) → AllBytes b → parse_bytes (field_of b) ≡ some b
unfolding parse_bytes
bytes_round_trip [] a = refl
bytes_round_trip (x ∷ b) a =
    let l = length_again (x ∷ b) a in
    let w = digits_of (x ∷ b) in
    let even : length w % 2 ≡ 0 = omega arith in
    rw (ne_eqb (length w) 1 (λ e. omega arith), le-leb 1 (length w) (omega arith), even, hex_again (x ∷ b) a, pairs_again (x ∷ b) a)
