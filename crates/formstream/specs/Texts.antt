-- A text of lines for `formtable`, that comes in blocks (`linetexts`).
--
--   answer_to w  the answer to the line w
--   form_teller  the machine that answers lines: one that is longer than any in the grammar is
--                malformed
--   form_lines   the same, as it keeps a line
use Rattle.std.specs.Prelude.{List, ℕ}
use Rattle.answers.specs.Answers.{malformed_text}
use Rattle.linetexts.specs.Feeding.{LineMachine}
use Rattle.linetexts.specs.Beginnings.{Beginning, Teller, by_beginning}
use Rattle.linetexts.specs.Alone.{answer_teller}
use Rattle.formline.specs.Lines.{line_in, longest_line}
use Rattle.tabletext.specs.Answers.{answer_text, most_answer}

abbrev pub answer_to : List ℕ → List ℕ
answer_to w = answer_text (line_in w)

abbrev pub form_teller : Teller (Unit {0})
form_teller = answer_teller answer_to malformed_text longest_line most_answer

abbrev pub form_lines : LineMachine Beginning (Unit {0})
form_lines = by_beginning form_teller
