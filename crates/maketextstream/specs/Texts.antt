-- A text of lines for `maketext`, that comes in blocks (`linetexts`).
--
--   text_teller  the machine that answers lines: one that is longer than any in the grammar is
--                malformed
--   text_lines   the same, as it keeps a line
use Rattle.answers.specs.Answers.{malformed_text}
use Rattle.linetexts.specs.Feeding.{LineMachine}
use Rattle.linetexts.specs.Beginnings.{Beginning, Teller, by_beginning}
use Rattle.linetexts.specs.Alone.{answer_teller}
use Rattle.maketextlines.specs.Lines.{longest_line}
use Rattle.maketextlines.specs.Answers.{most_answer, answer_to}

abbrev pub text_teller : Teller (Unit {0})
text_teller = answer_teller answer_to malformed_text longest_line most_answer

abbrev pub text_lines : LineMachine Beginning (Unit {0})
text_lines = by_beginning text_teller
