-- Fields and what they say, by computation. Assumes nothing.
use mathlib.Core.Path.{◌≡◌, refl}
use mathlib.Core.List.{[], ◌∷◌}
use mathlib.Core.Option.{none, some}
use Rattle.fields.specs.Numbers.{parse_number, all_digits, value_from}
use Rattle.fields.specs.Bytes.{parse_bytes, hex_value, all_hex, pairs}
use Rattle.fields.specs.Worked.{digits, Read}

-- 007, and nothing
leading_zeros : parse_number (48 ∷ 48 ∷ 55 ∷ []) ≡ some 7
unfolding all_digits value_from
leading_zeros = refl

no_digit : parse_number [] ≡ none
no_digit = refl

-- 18446744073709551615 and 18446744073709551616
largest :
    parse_number (49 ∷ 56 ∷ 52 ∷ 52 ∷ 54 ∷ 55 ∷ 52 ∷ 52 ∷ 48 ∷ 55 ∷ 51 ∷ 55 ∷ 48 ∷ 57 ∷ 53 ∷ 53 ∷ 49 ∷ 54 ∷ 49 ∷ 53 ∷ []) ≡ some 18446744073709551615
unfolding all_digits value_from
largest = refl

one_more : parse_number (49 ∷ 56 ∷ 52 ∷ 52 ∷ 54 ∷ 55 ∷ 52 ∷ 52 ∷ 48 ∷ 55 ∷ 51 ∷ 55 ∷ 48 ∷ 57 ∷ 53 ∷ 53 ∷ 49 ∷ 54 ∷ 49 ∷ 54 ∷ []) ≡ none
unfolding all_digits value_from
one_more = refl

-- `-`, `0aFf`, `0`, `0g` and nothing
no_bytes : parse_bytes (45 ∷ []) ≡ some []
unfolding parse_bytes
no_bytes = refl

both_cases : parse_bytes (48 ∷ 97 ∷ 70 ∷ 102 ∷ []) ≡ some (10 ∷ 255 ∷ [])
unfolding parse_bytes hex_value all_hex pairs
both_cases = refl

half_a_pair : parse_bytes (48 ∷ []) ≡ none
unfolding parse_bytes hex_value all_hex pairs
half_a_pair = refl

stray_letter : parse_bytes (48 ∷ 103 ∷ []) ≡ none
unfolding parse_bytes hex_value all_hex pairs
stray_letter = refl

empty-field : parse_bytes [] ≡ none
unfolding parse_bytes
empty-field = refl

-- every hex digit, and the bytes next to them
pub digits_read : Read digits
unfolding parse_bytes hex_value all_hex pairs
digits_read = (refl, (refl, (refl, (refl, (refl, (refl, (refl, (refl, (refl, (refl, (refl, (refl, (refl, (refl, (refl, (refl, (refl, (refl, (refl, (refl, (refl, (refl, (refl, (refl, (refl, (refl, (refl, (refl, tt))))))))))))))))))))))))))))
