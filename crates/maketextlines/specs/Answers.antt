-- How a line of `maketext` is answered: as text, in ASCII.
--
--   most_answer         the most bytes of an answer: two for each of a text's, and a line feed
--   made_answer k seed n the answer where a text is to be made: its bytes in hex digits, `-` for none,
--                       or `refused` and the number
--   answer_to w         the answer to the line w
use Rattle.std.specs.Prelude.{List, [], ◌∷◌, ◌++◌, ℕ, ◌+◌, ◌*◌}
use Rattle.std.proofs.Math.Option.{Option, none, some}
use Rattle.limits.specs.Limits.{longest_chunk}
use Rattle.answers.specs.Answers.{refused_text, malformed_text}
use Rattle.fields.specs.Claims.{field_of}
use Rattle.madetexts.specs.Values.{made_text}
use Rattle.madetexts.specs.Making.{made_number}
use Rattle.maketextlines.specs.Lines.{Meaning, makes, malformed, line_in}

abbrev pub most_answer : ℕ
most_answer = 2 * longest_chunk + 1

abbrev pub answer_by : Option ℕ → List ℕ → List ℕ
answer_by none text = field_of text ++ (10 ∷ [])
answer_by (some number) text = refused_text number

abbrev pub made_answer : ℕ → ℕ → ℕ → List ℕ
made_answer k seed n = answer_by (made_number k seed) (made_text k seed n)

abbrev pub answer_in : Meaning → List ℕ
answer_in (makes k seed n) = made_answer k seed n
answer_in malformed = malformed_text

abbrev pub answer_to : List ℕ → List ℕ
answer_to w = answer_in (line_in w)
