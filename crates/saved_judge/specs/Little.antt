-- Numbers in bytes, the lowest byte first.
--
--   little_of w x      the number x in w bytes
--   little_in w s      the number that the first w bytes of s say
--   little_at w b i    the number that the w bytes of b from i on say
--   numbers_of w xs    the numbers xs one after the other, in w bytes each
--   numbers_in w n s   the n numbers that s begins with, in w bytes each
--   numbers_at w n b i  the n numbers that stand in b from i on, in w bytes each
use Rattle.std.specs.Prelude.{ℕ, zero, suc, ◌+◌, ◌*◌, ◌/◌, ◌%◌, List, [], ◌∷◌, ◌++◌, drop}

unfoldable pub little_of : ℕ → ℕ → List ℕ
little_of zero x = []
little_of (suc w) x = x % 256 ∷ little_of w (x / 256)

unfoldable pub little_in : ℕ → List ℕ → ℕ
little_in zero s = 0
little_in (suc w) [] = 0
little_in (suc w) (x ∷ s) = x + 256 * little_in w s

abbrev pub little_at : ℕ → List ℕ → ℕ → ℕ
little_at w b i = little_in w (drop i b)

unfoldable pub numbers_of : ℕ → List ℕ → List ℕ
numbers_of w [] = []
numbers_of w (x ∷ xs) = little_of w x ++ numbers_of w xs

unfoldable pub numbers_in : ℕ → ℕ → List ℕ → List ℕ
numbers_in w zero s = []
numbers_in w (suc n) s = little_in w s ∷ numbers_in w n (drop w s)

abbrev pub numbers_at : ℕ → ℕ → List ℕ → ℕ → List ℕ
numbers_at w n b i = numbers_in w n (drop i b)
