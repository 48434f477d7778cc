-- A line for each word, in bytes, and what it means; an answer of each kind, in bytes.
-- proofs/Examples.antt proves the claims.
--
--   both_line, either_line, interleaving_line  the files 00 and 01, in each way
--   compare_line, reduce_line                the same files compared; the file 00 reduced
--   WorkedLines                              each line means its word, and the files in this order
--   Written                                  each kind of answer once
use Rattle.std.specs.Prelude.{◌≡◌, List, [], ◌∷◌, ℕ}
use Rattle.merging.specs.declared.Way.TheVariants.{Both, Either, Interleaving}
use Rattle.compare.specs.declared.Which.TheVariants.{First, Second}
use Rattle.mergetext.specs.Lines.{merges, compares, reduces, line_in}
use Rattle.mergetext.specs.Answers.{refused, file, apart, same, unread, response_text}

-- `both 00 01`
abbrev pub both_line : List ℕ
both_line = 98 ∷ 111 ∷ 116 ∷ 104 ∷ 32 ∷ 48 ∷ 48 ∷ 32 ∷ 48 ∷ 49 ∷ []

-- `either 00 01`
abbrev pub either_line : List ℕ
either_line = 101 ∷ 105 ∷ 116 ∷ 104 ∷ 101 ∷ 114 ∷ 32 ∷ 48 ∷ 48 ∷ 32 ∷ 48 ∷ 49 ∷ []

-- `interleaving 00 01`
abbrev pub interleaving_line : List ℕ
interleaving_line = 105 ∷ 110 ∷ 116 ∷ 101 ∷ 114 ∷ 108 ∷ 101 ∷ 97 ∷ 118 ∷ 105 ∷ 110 ∷ 103 ∷ 32 ∷ 48 ∷ 48 ∷ 32 ∷ 48 ∷ 49 ∷ []

-- `compare 00 01`
abbrev pub compare_line : List ℕ
compare_line = 99 ∷ 111 ∷ 109 ∷ 112 ∷ 97 ∷ 114 ∷ 101 ∷ 32 ∷ 48 ∷ 48 ∷ 32 ∷ 48 ∷ 49 ∷ []

-- `reduce 00`
abbrev pub reduce_line : List ℕ
reduce_line = 114 ∷ 101 ∷ 100 ∷ 117 ∷ 99 ∷ 101 ∷ 32 ∷ 48 ∷ 48 ∷ []

abbrev pub WorkedLines : Type 0
WorkedLines =
    (line_in both_line ≡ merges Both (0 ∷ []) (1 ∷ []))
    × (line_in either_line ≡ merges Either (0 ∷ []) (1 ∷ []))
    × (line_in interleaving_line ≡ merges Interleaving (0 ∷ []) (1 ∷ []))
    × (line_in compare_line ≡ compares (0 ∷ []) (1 ∷ []))
    × (line_in reduce_line ≡ reduces (0 ∷ []))

pub record Written : Type 0 where
  -- `apart first 02`, `apart second -`, `same`
  pub first : response_text (apart First (2 ∷ [])) ≡ 97 ∷ 112 ∷ 97 ∷ 114 ∷ 116 ∷ 32 ∷ 102 ∷ 105 ∷ 114 ∷ 115 ∷ 116 ∷ 32 ∷ 48 ∷ 50 ∷ 10 ∷ []
  pub second : response_text (apart Second []) ≡ 97 ∷ 112 ∷ 97 ∷ 114 ∷ 116 ∷ 32 ∷ 115 ∷ 101 ∷ 99 ∷ 111 ∷ 110 ∷ 100 ∷ 32 ∷ 45 ∷ 10 ∷ []
  pub alike : response_text same ≡ 115 ∷ 97 ∷ 109 ∷ 101 ∷ 10 ∷ []
  -- the bytes 66, 10 and 255 of a file: `420AFF`
  pub digits : response_text (file (66 ∷ 10 ∷ 255 ∷ [])) ≡ 52 ∷ 50 ∷ 48 ∷ 65 ∷ 70 ∷ 70 ∷ 10 ∷ []
  -- `refused 45`, `malformed`
  pub number : response_text (refused 45) ≡ 114 ∷ 101 ∷ 102 ∷ 117 ∷ 115 ∷ 101 ∷ 100 ∷ 32 ∷ 52 ∷ 53 ∷ 10 ∷ []
  pub no_meaning : response_text unread ≡ 109 ∷ 97 ∷ 108 ∷ 102 ∷ 111 ∷ 114 ∷ 109 ∷ 101 ∷ 100 ∷ 10 ∷ []
