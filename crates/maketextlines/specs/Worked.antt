-- A line and its answer, in bytes, by hand.
--
--   six_line    `3 7 6`: three symbols, the seed 7, six bytes
--   six_answer  `000000010101`: the values after 7 are 7575888327, 8070950887952051652,
--               13931920357059763743, 8698583309276795107, 8474076621961470850 and
--               13132852266797165125, of which 3 leaves 0, 0, 0, 1, 1 and 1
use Rattle.std.specs.Prelude.{List, [], ◌∷◌, ℕ}

abbrev pub six_line : List ℕ
six_line = 51 ∷ 32 ∷ 55 ∷ 32 ∷ 54 ∷ []

abbrev pub six_answer : List ℕ
six_answer = 48 ∷ 48 ∷ 48 ∷ 48 ∷ 48 ∷ 48 ∷ 48 ∷ 49 ∷ 48 ∷ 49 ∷ 48 ∷ 49 ∷ 10 ∷ []
