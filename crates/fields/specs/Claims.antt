-- Every number of 64 bits and every list of bytes has a field, and reading the field gives it
-- again; proofs/RoundTrip.antt proves it. And a field says a number or bytes only if it is that
-- field, but for leading zeros and the case of hex digits: proofs/Exact.antt.
--
--   AllBytes b       each member of b is a byte
--   field_of b        the bytes b as a field: two hex digits a byte, or `-` for none
--   SaysNumber x n   the field x is the decimal digits of n, a number of 64 bits, with zeros before
--                    them or without, 20 bytes at most
--   upper_case w     w with each of the letters a to f as A to F
--   SaysBytes x b    the field x is that of the bytes b, but for the case of its hex digits
use Rattle.std.specs.Prelude.{◌≡◌, ◌↔◌, cond, List, [], ◌∷◌, ◌++◌, ℕ, ◌-◌, ◌<◌, ◌≤◌, length, replicate}
use Rattle.std.proofs.Math.Option.{some}
use Rattle.limits.specs.Limits.{largest_number, most_digits}
use Rattle.text.specs.Numerals.{decimal, hex}
use Rattle.fields.specs.Numbers.{parse_number}
use Rattle.fields.specs.Bytes.{within, parse_bytes}

abbrev pub AllBytes : List ℕ → Type 0
AllBytes [] = Unit {0}
AllBytes (x ∷ b) = (x < 256) × AllBytes b

unfoldable pub digits_of : List ℕ → List ℕ
digits_of [] = []
digits_of (x ∷ b) = hex 2 x ++ digits_of b

abbrev pub field_of : List ℕ → List ℕ
field_of [] = 45 ∷ []
field_of (x ∷ b) = digits_of (x ∷ b)

-- 48 is `0`
abbrev pub SaysNumber : List ℕ → ℕ → Type 0
SaysNumber x n = (zeros : ℕ) × (x ≡ replicate zeros 48 ++ decimal n) × (length x ≤ most_digits) × (n ≤ largest_number)

-- 97 to 102 are a to f
abbrev pub upper_case : List ℕ → List ℕ
upper_case [] = []
upper_case (c ∷ w) = cond (within 97 102 c) (c - 32) c ∷ upper_case w

abbrev pub SaysBytes : List ℕ → List ℕ → Type 0
SaysBytes x b = (upper_case x ≡ field_of b) × AllBytes b

pub record Claims : Type 0 where
  pub number_round_trip : (n : ℕ) → n ≤ largest_number → parse_number (decimal n) ≡ some n
  pub bytes_round_trip : (b : List ℕ) → AllBytes b → parse_bytes (field_of b) ≡ some b
  pub number_exactly : (x : List ℕ) (n : ℕ) → (parse_number x ≡ some n) ↔ SaysNumber x n
  pub bytes_exactly : (x b : List ℕ) → (parse_bytes x ≡ some b) ↔ SaysBytes x b
