-- Printed samples by hand (document 02, R-9). proofs/Examples.antt proves the claims.
--
--   lines_A        `accepts 0001` and `rejects -`: of the texts that end in 0 1 the shortest is
--                  0 1, and the empty text is none of them
--   file_all       rule A with state 0 final too: every text
--   lines_all      `accepts -` and `rejects none`
--   WorkedSamples  what is printed for the two files
use Rattle.std.specs.Prelude.{◌≡◌, List, [], ◌∷◌, ◌++◌, ℕ, set}
use Rattle.ruleformat.specs.Worked.{file_A}
use Rattle.sampletext.specs.SampleText.{text_for}

abbrev pub lines_A : List ℕ
lines_A =
    (97 ∷ 99 ∷ 99 ∷ 101 ∷ 112 ∷ 116 ∷ 115 ∷ 32 ∷ 48 ∷ 48 ∷ 48 ∷ 49 ∷ 10 ∷ [])
    ++ (114 ∷ 101 ∷ 106 ∷ 101 ∷ 99 ∷ 116 ∷ 115 ∷ 32 ∷ 45 ∷ 10 ∷ [])

abbrev pub file_all : List ℕ
file_all = set file_A 6 0x05

abbrev pub lines_all : List ℕ
lines_all =
    (97 ∷ 99 ∷ 99 ∷ 101 ∷ 112 ∷ 116 ∷ 115 ∷ 32 ∷ 45 ∷ 10 ∷ [])
    ++ (114 ∷ 101 ∷ 106 ∷ 101 ∷ 99 ∷ 116 ∷ 115 ∷ 32 ∷ 110 ∷ 111 ∷ 110 ∷ 101 ∷ 10 ∷ [])

abbrev pub WorkedSamples : Type 0
WorkedSamples = (text_for file_A ≡ lines_A) × (text_for file_all ≡ lines_all)
