-- The answer to the line of rule A's form (crates/formline), in bytes, by hand.
--
--   table_A  `1 0 1 2 1 0 - 4 - -`: the table that `ruleprint` shows, set by set
use Rattle.std.specs.Prelude.{List, [], ◌∷◌, ℕ}

abbrev pub table_A : List ℕ
table_A = 49 ∷ 32 ∷ 48 ∷ 32 ∷ 49 ∷ 32 ∷ 50 ∷ 32 ∷ 49 ∷ 32 ∷ 48 ∷ 32 ∷ 45 ∷ 32 ∷ 52 ∷ 32 ∷ 45 ∷ 32 ∷ 45 ∷ 10 ∷ []
