-- Every text of lines of `maketext` is answered right, however it is cut into blocks and however far
-- each round goes. Assumes nothing.
use mathlib.Core.Path.{ap}
use Prim.Native.Nat.{◌+◌}
use Rattle.answers.specs.Answers.{malformed_text}
use Rattle.linetexts.specs.Beginnings.{KeepsLine}
use Rattle.linetexts.specs.Alone.{Answers}
use Rattle.linetexts.proofs.Alone.{answered_lines}
use Rattle.maketextlines.specs.Lines.{longest_line}
use Rattle.maketextlines.specs.Answers.{most_answer, answer_in, answer_to}
use Rattle.maketextlines.proofs.Claims as maketextlines
use Rattle.maketextstream.specs.Texts.{text_lines}

pub answers : Answers text_lines answer_to (KeepsLine (longest_line + 1))
answers = answered_lines answer_to malformed_text longest_line most_answer (λ w long. ap answer_in ((maketextlines.claims).too_long w long))
