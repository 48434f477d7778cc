-- The sets of positions said a second way, by texts, as McNaughton and Yamada have them: each
-- letter of a pattern is replaced by its number, from the left, and the texts of that are looked at.
-- specs/Positions.antt has the same sets by the tree; specs/Claims.antt says that they are the same.
--
--   marked p o      the pattern p with the number of each letter in its place, from o + 1 on
--   Begins p j      a text of it begins with position j
--   Ends p i        a text of it ends with position i
--   Comes p i j     in a text of it position j comes right after position i
use Rattle.std.specs.Prelude.{List, [], ◌∷◌, ◌++◌, ℕ, suc, ◌+◌}
use Rattle.patterns.specs.Patterns.{Pattern, empty, letter, then, or, star, Matches, count}

abbrev pub marked : Pattern → ℕ → Pattern
marked empty o = empty
marked (letter s) o = letter (suc o)
marked (then p q) o = then (marked p o) (marked q (o + count p))
marked (or p q) o = or (marked p o) (marked q (o + count p))
marked (star p) o = star (marked p o)

abbrev pub Begins : Pattern → ℕ → Type 0
Begins p j = (w : List ℕ) × Matches (marked p 0) (j ∷ w)

abbrev pub Ends : Pattern → ℕ → Type 0
Ends p i = (w : List ℕ) × Matches (marked p 0) (w ++ (i ∷ []))

abbrev pub Comes : Pattern → ℕ → ℕ → Type 0
Comes p i j = (v : List ℕ) × (w : List ℕ) × Matches (marked p 0) (v ++ (i ∷ j ∷ w))
