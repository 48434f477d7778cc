-- How a question is answered, a line each.
--
--   finding_text f  the line of a diagnosis: `lost P`, `open M`, or a refusal
--   spot_text s     the line of what was located: `after B`, `nowhere`, or a refusal
use Rattle.std.specs.Prelude.{List, [], ◌∷◌, ℕ}
use Rattle.answers.specs.Answers.{line_of, refused_text}
use Rattle.diagnoses.specs.Diagnosing.{Finding, refused_as, lost_at, open_with}
use Rattle.locating.specs.Locating.{Spot, refused_for, stuck_after, nowhere}

abbrev pub lost_word : List ℕ
lost_word = 108 ∷ 111 ∷ 115 ∷ 116 ∷ []

abbrev pub open_word : List ℕ
open_word = 111 ∷ 112 ∷ 101 ∷ 110 ∷ []

abbrev pub after_word : List ℕ
after_word = 97 ∷ 102 ∷ 116 ∷ 101 ∷ 114 ∷ []

abbrev pub nowhere_word : List ℕ
nowhere_word = 110 ∷ 111 ∷ 119 ∷ 104 ∷ 101 ∷ 114 ∷ 101 ∷ []

abbrev pub finding_text : Finding → List ℕ
finding_text (refused_as x) = refused_text x
finding_text (lost_at p) = line_of lost_word (p ∷ [])
finding_text (open_with m) = line_of open_word (m ∷ [])

abbrev pub spot_text : Spot → List ℕ
spot_text (refused_for x) = refused_text x
spot_text (stuck_after b) = line_of after_word (b ∷ [])
spot_text nowhere = line_of nowhere_word []
