-- A number in a line that records a call: 1 to 20 decimal digits with a value of at most
-- 18446744073709551615. Leading zeros are let in.
--
--   all_digits w   each byte of w is an ASCII decimal digit
--   value_of w      the value of the digits w, the highest first
--   is_number w     the field w is such a number
--   parse_number w    the number that the field w says, if it is one
use Rattle.std.specs.Prelude.{Bool, true, cond, ◌&&◌, List, [], ◌∷◌, ℕ, ◌+◌, ◌*◌, ◌-◌, leb, length}
use Rattle.std.proofs.Math.Option.{Option, none, some}
use Rattle.limits.specs.Limits.{largest_number, most_digits}

unfoldable pub all_digits : List ℕ → Bool
all_digits [] = true
all_digits (c ∷ w) = leb 48 c && (leb c 57 && all_digits w)

-- of the digits w after digits of the value v
unfoldable pub value_from : ℕ → List ℕ → ℕ
value_from v [] = v
value_from v (c ∷ w) = value_from (10 * v + (c - 48)) w

abbrev pub value_of : List ℕ → ℕ
value_of w = value_from 0 w

abbrev pub is_number : List ℕ → Bool
is_number w = leb 1 (length w) && (leb (length w) most_digits && (all_digits w && leb (value_of w) largest_number))

abbrev pub parse_number : List ℕ → Option ℕ
parse_number w = cond (is_number w) (some (value_of w)) none
