-- Lists made cell by cell or part by part.
--
--   list_from i len g   the list g i, g (i + 1), .. of the given length: what an array holds
--   joined p n         the lists p 0, p 1, .. p (n − 1), one after the other
use Rattle.std.specs.Prelude.{List, [], ◌∷◌, ◌++◌, ℕ, zero, suc}

unfoldable pub list_from : ℕ → ℕ → (ℕ → ℕ) → List ℕ
list_from i zero g = []
list_from i (suc len) g = g i ∷ list_from (suc i) len g

unfoldable pub joined : (ℕ → List ℕ) → ℕ → List ℕ
joined p zero = []
joined p (suc i) = joined p i ++ p i
