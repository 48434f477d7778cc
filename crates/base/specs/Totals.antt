-- Sums over the numbers below a bound, and the greatest of what they give.
--
--   total f n      f 0 + f 1 + .. + f (n − 1)
--   greatest f n   the greatest of f 0, f 1, .. f (n − 1); 0 where n is 0
use Rattle.std.specs.Prelude.{ℕ, zero, suc, ◌+◌, max}

unfoldable pub total : (ℕ → ℕ) → ℕ → ℕ
total f zero = 0
total f (suc q) = total f q + f q

unfoldable pub greatest : (ℕ → ℕ) → ℕ → ℕ
greatest f zero = 0
greatest f (suc q) = max (greatest f q) (f q)
