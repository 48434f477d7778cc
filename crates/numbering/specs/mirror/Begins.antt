-- The procedure only appends. Nothing here needs to be believed: contracts of functions cite it.
use Rattle.std.specs.Prelude.{◌≡◌, List, ◌++◌, ℕ}

-- the list l is how the list f begins
pub record Begins (l f : List ℕ) : Type 0 where
  pub rest : List ℕ
  pub is : f ≡ l ++ rest
