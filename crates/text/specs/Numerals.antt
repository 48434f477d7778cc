-- Numbers as text, in ASCII: lists of byte values.
--
--   decimal n       the decimal digits of n, without leading zeros; for numbers below 10 ^ 20
--   hex width n     `width` upper-case hex digits of n, the highest first
use Rattle.std.specs.Prelude.{cond, List, [], ◌∷◌, ◌++◌, ℕ, zero, suc, ◌+◌, ◌/◌, ◌%◌, ltb}

-- of a number below 10 ^ places
unfoldable pub decimal_below : ℕ → ℕ → List ℕ
decimal_below zero n = []
decimal_below (suc places) n = cond (ltb n 10) ((48 + n) ∷ []) (decimal_below places (n / 10) ++ ((48 + n % 10) ∷ []))

abbrev pub decimal : ℕ → List ℕ
decimal n = decimal_below 20 n

-- 0 to 9, A to F
abbrev pub hex_digit : ℕ → ℕ
hex_digit d = cond (ltb d 10) (48 + d) (55 + d)

unfoldable pub hex : ℕ → ℕ → List ℕ
hex zero n = []
hex (suc width) n = hex width (n / 16) ++ (hex_digit (n % 16) ∷ [])
