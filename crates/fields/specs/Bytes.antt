-- Bytes in a line that records a call: one or more pairs of hex digits of either case, or `-` for
-- no bytes.
--
--   hex_value c    the value of the hex digit c; 16 for any other byte
--   all_hex w      each byte of w is a hex digit
--   pairs w        the bytes that the pairs of hex digits w stand for, the high digit first
--   is_bytes w     the field w is pairs of hex digits, at least one
--   parse_bytes w     the bytes that the field w says, if it says bytes
--   Took           what reading the field w into a lent buffer does: the bytes go to its beginning,
--                  as many as fit, and are counted; a refusal changes nothing
use Rattle.std.specs.Prelude.{◌≡◌, Bool, true, cond, ◌&&◌, List, [], ◌∷◌, ℕ, ◌+◌, ◌*◌, ◌-◌, ◌%◌, eqb, leb, ltb, length, take, get_or}
use Rattle.std.proofs.Math.Option.{Option, none, some}
use Rattle.text.specs.Writing.{Wrote}

abbrev pub within : ℕ → ℕ → ℕ → Bool
within low high c = leb low c && leb c high

-- 0 to 9, A to F, a to f
unfoldable pub hex_value : ℕ → ℕ
hex_value c = cond (within 48 57 c) (c - 48) (cond (within 65 70 c) (c - 55) (cond (within 97 102 c) (c - 87) 16))

unfoldable pub all_hex : List ℕ → Bool
all_hex [] = true
all_hex (c ∷ w) = ltb (hex_value c) 16 && all_hex w

unfoldable pub pairs : List ℕ → List ℕ
pairs [] = []
pairs (a ∷ []) = []
pairs (a ∷ b ∷ w) = (16 * hex_value a + hex_value b) ∷ pairs w

abbrev pub is_bytes : List ℕ → Bool
is_bytes w = leb 1 (length w) && (eqb (length w % 2) 0 && all_hex w)

-- 45 is `-`
abbrev pub is_no_bytes : List ℕ → Bool
is_no_bytes w = eqb (length w) 1 && eqb (get_or w 0 0) 45

unfoldable pub parse_bytes : List ℕ → Option (List ℕ)
parse_bytes w = cond (is_no_bytes w) (some []) (cond (is_bytes w) (some (pairs w)) none)

abbrev pub TookOf : Option (List ℕ) → List ℕ → Option ℕ → List ℕ → Type 0
TookOf none before said after = (said ≡ none) × (after ≡ before)
TookOf (some bytes) before said after = (n : ℕ) × (said ≡ some n) × Wrote before 0 (take (length before) bytes) after n

abbrev pub Took : List ℕ → List ℕ → Option ℕ → List ℕ → Type 0
Took w before said after = TookOf (parse_bytes w) before said after
