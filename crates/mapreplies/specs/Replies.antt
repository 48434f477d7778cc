-- How `mapjudge` writes a reply, a line each, in ASCII: lists of byte values.
--
--   reply_text a     the line of a reply: `accepted COUNT`, sixteen upper-case hex digits, `yes`,
--                    `no`, `no profile`, `refused N`; an empty line where the profile was forgotten
--   most_answer      the most bytes of an answer: sixteen digits and a line feed
use Rattle.std.specs.Prelude.{Bool, true, false, List, [], ◌∷◌, ◌++◌, ℕ}
use Rattle.answers.specs.Answers.{line_of, accepted_word, refused_text}
use Rattle.maptext.specs.MappingText.{mapping_text}
use Rattle.mapcalls.specs.Calls.{Reply, forgotten, built, mapped, said, lacking, refused}

-- with the line feed, as the two below
abbrev pub no_profile_lem : List ℕ
no_profile_lem = 110 ∷ 111 ∷ 32 ∷ 112 ∷ 114 ∷ 111 ∷ 102 ∷ 105 ∷ 108 ∷ 101 ∷ 10 ∷ []

abbrev pub said_text : Bool → List ℕ
said_text true = 121 ∷ 101 ∷ 115 ∷ 10 ∷ []
said_text false = 110 ∷ 111 ∷ 10 ∷ []

abbrev pub reply_text : Reply → List ℕ
reply_text forgotten = 10 ∷ []
reply_text (built count) = line_of accepted_word (count ∷ [])
reply_text (mapped f) = mapping_text f ++ (10 ∷ [])
reply_text (said b) = said_text b
reply_text lacking = no_profile_lem
reply_text (refused x) = refused_text x

abbrev pub most_answer : ℕ
most_answer = 17
