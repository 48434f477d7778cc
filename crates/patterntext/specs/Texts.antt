-- A text of patterns, one a line, that comes in blocks (`linetexts`).
--
--   pattern_teller  the machine that answers lines: one that is longer than a pattern may be is
--                   refused with 30
--   pattern_lines   the same, as it keeps a line
use Rattle.ruletext.specs.RuleText.{refused_text}
use Rattle.linetexts.specs.Feeding.{LineMachine}
use Rattle.linetexts.specs.Beginnings.{Beginning, Teller, by_beginning}
use Rattle.linetexts.specs.Alone.{answer_teller}
use Rattle.patterns.specs.Limits.{longest_pattern}
use Rattle.patterntext.specs.Answers.{answer_room, answer_text}

abbrev pub pattern_teller : Teller (Unit {0})
pattern_teller = answer_teller answer_text (refused_text 30) longest_pattern answer_room

abbrev pub pattern_lines : LineMachine Beginning (Unit {0})
pattern_lines = by_beginning pattern_teller
