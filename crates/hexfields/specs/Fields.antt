-- A field of bytes, `-` for none or pairs of hex digits, read byte by byte.
--
--   Begun          what of a field has been read: nothing, the `-`, pairs of digits with the bytes
--                  that they stand for, pairs and a digit more with its value; or no field begins so
--   is_digit c     c is a hex digit
--   goes_on b c    what has been read with the byte c more
--   begun_by b w   with the bytes w more
--   says_now b     the bytes that the field says if it ends here
use Rattle.std.specs.Prelude.{Bool, cond, List, [], ◌∷◌, ◌++◌, ℕ, ◌+◌, ◌*◌, eqb, ltb}
use Rattle.std.proofs.Math.Option.{Option, none, some}
use Rattle.fields.specs.Bytes.{hex_value}

pub data Begun : Type 0 where
  nothing : Begun
  dash : Begun
  even : List ℕ → Begun
  odd : List ℕ → ℕ → Begun
  stray : Begun

abbrev pub is_digit : ℕ → Bool
is_digit c = ltb (hex_value c) 16

-- 45 is `-`
abbrev pub goes_on : Begun → ℕ → Begun
goes_on nothing c = cond (is_digit c) (odd [] (hex_value c)) (cond (eqb c 45) dash stray)
goes_on dash c = stray
goes_on (even bytes) c = cond (is_digit c) (odd bytes (hex_value c)) stray
goes_on (odd bytes high) c = cond (is_digit c) (even (bytes ++ ((16 * high + hex_value c) ∷ []))) stray
goes_on stray c = stray

abbrev pub begun_by : Begun → List ℕ → Begun
begun_by b [] = b
begun_by b (c ∷ w) = begun_by (goes_on b c) w

abbrev pub says_now : Begun → Option (List ℕ)
says_now nothing = none
says_now dash = some []
says_now (even bytes) = some bytes
says_now (odd bytes high) = none
says_now stray = none
