-- A text of lines for `rulemerge`, that comes in blocks (`linetexts`). A line has two files of any
-- length, so no beginning tells it: it is read byte by byte, and of each file as much is kept as tells
-- one that is too long (`mergescan`).
--
--   answer_to w        the answer to the line w
--   merge_lines        the machine that answers lines
--   merge_state ..     what is left between the blocks of a text
--   KeepsFiles s w     s keeps the line that begins with w, and its buffers can tell a file that is
--                      too long
use Rattle.std.specs.Prelude.{List, ℕ, ◌<◌, length}
use Rattle.limits.specs.Limits.{longest_file}
use Rattle.linetexts.specs.Feeding.{LineMachine, State, keeping}
use Rattle.linetexts.specs.Alone.{alone}
use Rattle.mergetext.specs.Lines.{line_in}
use Rattle.mergetext.specs.Answers.{response_in, response_text, most_answer}
use Rattle.mergescan.specs.declared.Scan.{Scan}
use Rattle.mergescan.specs.declared.Scan.TheVariants as scan
use Rattle.mergescan.specs.Lines.{start, seen_by}
use Rattle.mergescan.specs.Scanning.{Scanned, scanned, scan_all, is_start, KeepsLine, held_meaning}

abbrev pub answer_to : List ℕ → List ℕ
answer_to w = response_text (response_in (line_in w))

abbrev pub merge_lines : LineMachine Scanned (Unit {0})
merge_lines = record {
  step = alone answer_to;
  begin = λ s. scanned scan.Start s.one s.two;
  more = scan_all;
  empty = λ s. is_start s.scan;
  kept = λ j s. record { text = response_text (response_in (held_meaning s.scan s.one s.two)); state = j };
  most = most_answer;
}

abbrev pub merge_state : Scan → List ℕ → List ℕ → State Scanned (Unit {0})
merge_state s one two = keeping tt (scanned s one two)

pub record KeepsFiles (s : Scanned) (w : List ℕ) : Type 0 where
  pub one : longest_file < length s.one
  pub two : longest_file < length s.two
  pub keeps : KeepsLine (seen_by start w) s.scan s.one s.two
