-- A text of two lines and their answers, in bytes, by hand.
--
--   two_lines    an empty line, which is the empty pattern, and `*a`, whose star stands after
--                nothing
--   two_answers  `011001000000010000000E000000`: one state, which is initial and final, 16 symbols
--                and no arc; and `refused 31`
use Rattle.std.specs.Prelude.{List, [], ◌∷◌, ◌++◌, ℕ}

abbrev pub two_lines : List ℕ
two_lines = 10 ∷ 42 ∷ 97 ∷ 10 ∷ []

abbrev pub two_answers : List ℕ
two_answers =
    (48 ∷ 49 ∷ 49 ∷ 48 ∷ 48 ∷ 49 ∷ 48 ∷ 48 ∷ 48 ∷ 48 ∷ 48 ∷ 48 ∷ 48 ∷ 49 ∷ 48 ∷ 48 ∷ 48 ∷ 48 ∷ 48 ∷ 48 ∷ 48 ∷ 69 ∷ 48 ∷ 48 ∷ 48 ∷ 48 ∷ 48 ∷ 48 ∷ 10 ∷ [])
    ++ (114 ∷ 101 ∷ 102 ∷ 117 ∷ 115 ∷ 101 ∷ 100 ∷ 32 ∷ 51 ∷ 49 ∷ 10 ∷ [])
