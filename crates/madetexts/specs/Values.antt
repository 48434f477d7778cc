-- Made test texts (document 02, R-14): "Marsaglia's 64-bit xorshift with shifts 13 left, 7 right, 17
-- left, each new value modulo k being a symbol". The seed is the value before the first new one.
--
--   left_by n x           x and its 64 bits shifted left by n, bit by bit where they differ
--   right_by n x          the same, shifted right
--   next_value x          the value after x
--   made_text k x length  so many symbols, from the values after x
use Rattle.std.specs.Prelude.{List, [], ◌∷◌, ℕ, zero, suc, ◌*◌, ◌/◌, ◌%◌, ◌^◌}
use Rattle.std.specs.Int.Bits.{bit_xor}

abbrev pub left_by : ℕ → ℕ → ℕ
left_by n x = bit_xor x ((x * 2 ^ n) % 2 ^ 64)

abbrev pub right_by : ℕ → ℕ → ℕ
right_by n x = bit_xor x (x / 2 ^ n)

unfoldable pub next_value : ℕ → ℕ
next_value x = left_by 17 (right_by 7 (left_by 13 x))

unfoldable pub made_text : ℕ → ℕ → ℕ → List ℕ
made_text k x zero = []
made_text k x (suc length) = (next_value x % k) ∷ made_text k (next_value x) length
