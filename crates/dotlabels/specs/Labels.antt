-- The label of an arrow that `ruledot` draws, as byte values.
--
--   leads         an arc leads from one state to another by a symbol
--   earlier       p holds of the number that is so far back
--   label p k     the numbers of which p holds, none from k on, joined by commas, three or more in
--                 a row as a range: `0,1`, `0-5`, `0,2-5,7`
--   piece p s     what the label has for the number s
--   first_piece, last_piece  the same for the first and the last number of a row
--   comma, dash   the signs between numbers
use Rattle.std.specs.Prelude.{Bool, cond, ◌&&◌, List, [], ◌∷◌, ◌++◌, ℕ, ◌+◌, ◌-◌, ltb, leb}
use Rattle.base.specs.Lists.{joined}
use Rattle.base.specs.Conditions.{any_below}
use Rattle.text.specs.Numerals.{decimal}
use Rattle.masks.specs.Masks.{has}
use Rattle.automaton.specs.Rules.{target_mask}

-- `,`
abbrev pub comma : List ℕ
comma = 44 ∷ []

-- `-`
abbrev pub dash : List ℕ
dash = 45 ∷ []

-- an arc leads from q to t by symbol s, one of the first k
unfoldable pub leads : List ℕ → ℕ → ℕ → ℕ → ℕ → Bool
leads ts k q t s = ltb s k && has (target_mask ts q s) t

-- p holds of the number that is so far back from s
abbrev pub earlier : (ℕ → Bool) → ℕ → ℕ → Bool
earlier p back s = leb back s && p (s - back)

-- the first number of a row, or one alone: a comma before it where a row came before
abbrev pub first_piece : Bool → ℕ → List ℕ
first_piece more s = cond more comma [] ++ decimal s

-- the last number of a row: a dash before it where the row is a range of three or more
abbrev pub last_piece : Bool → ℕ → List ℕ
last_piece range s = cond range dash comma ++ decimal s

-- nothing for a number of which p does not hold, nor between the first and the last of a row
unfoldable pub piece : (ℕ → Bool) → ℕ → List ℕ
piece p s =
    cond (p s)
    (cond (earlier p 1 s)
    (cond (p (s + 1)) [] (last_piece (earlier p 2 s) s))
    (first_piece (any_below p s) s))
    []

abbrev pub label : (ℕ → Bool) → ℕ → List ℕ
label p k = joined (piece p) k
