-- A walk over bytes by any step f: from a number i by the byte b to the number f i b, byte after
-- byte. The numbers stand for sets; any number from `empty` on stands for the empty set.
--
--   end_by f i w           where the bytes w lead from i
--   count_by f empty i w   how many of the steps lead to a set that is not empty
--   looked_by f empty i w  for how many of the bytes w a step is looked up: as long as the set is
--                          not empty
use Rattle.std.specs.Prelude.{cond, ℕ, suc, ◌+◌, ltb}
use mathlib.Core.List.{List, [], ◌∷◌, foldl}

unfoldable pub end_by : (ℕ → ℕ → ℕ) → ℕ → List ℕ → ℕ
end_by f i w = foldl f i w

unfoldable pub count_by : (ℕ → ℕ → ℕ) → ℕ → ℕ → List ℕ → ℕ
count_by f empty i [] = 0
count_by f empty i (b ∷ w) = cond (ltb (f i b) empty) 1 0 + count_by f empty (f i b) w

unfoldable pub looked_by : (ℕ → ℕ → ℕ) → ℕ → ℕ → List ℕ → ℕ
looked_by f empty i [] = 0
looked_by f empty i (b ∷ w) = cond (ltb i empty) (suc (looked_by f empty (f i b) w)) 0
