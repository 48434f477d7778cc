-- Every text of patterns is answered right, however it is cut into blocks, and in however many
-- rounds a block is fed; proofs/Claims.antt proves it.
use Rattle.std.specs.Prelude.{◌≡◌, List, ℕ, ◌+◌, ◌≤◌, length}
use Rattle.lines.specs.Splitting.{lines_of}
use Rattle.linetexts.specs.Beginnings.{KeepsLine}
use Rattle.linetexts.specs.Alone.{answers_to, Answers}
use Rattle.patterns.specs.Limits.{longest_pattern}
use Rattle.patterntext.specs.Answers.{answer_room, answer_text}
use Rattle.patterntext.specs.Texts.{pattern_lines}
use Rattle.patterntext.specs.Worked.{two_lines, two_answers}

pub record Claims : Type 0 where
  pub worked : answers_to answer_text (lines_of two_lines) ≡ two_answers
  -- an answer fits into its room
  pub fits : (b : List ℕ) → length (answer_text b) ≤ answer_room
  -- all that is written are the answers to the lines of the blocks joined
  pub answers : Answers pattern_lines answer_text (KeepsLine (longest_pattern + 1))
