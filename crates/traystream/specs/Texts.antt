-- A text of lines for `trayjudge`, that comes in blocks.
--
--   tray_room     the bytes in which lines are told apart: `column ` and two hex digits for each byte
--                 of a file that is too long. A band that is too long is told by fewer
--   told_as o     the outcome of a line, with its answer as text; a malformed line ends its list
--   tray_list     what comes of a line in a list that goes on
--   tray_lines    the machine that answers lines
--   file_call, file_response  the same for the line of a file, by the number with which reading refuses it
--   history_after h m   the calls since the last empty line: h, and then a line of the meaning m; the
--                       line of a file is the installation of its rule, or no call where reading
--                       refuses it. None where a malformed line ended the list: no call is made until
--                       an empty line
--   right_response h m  the right answer to a line of the meaning m after the calls h
--   right_text h ls     the right answer to each line, after the calls h and the lines before it
use Rattle.std.specs.Prelude.{List, [], ◌∷◌, ℕ, ◌+◌, ◌*◌}
use Rattle.std.proofs.Math.Option.{Option, none, some}
use Rattle.ruleformat.specs.Refusals.{refusal}
use Rattle.ruleformat.specs.Reader.{rule_of}
use Rattle.linetexts.specs.Feeding.{Outcome, LineMachine}
use Rattle.linetexts.specs.Beginnings.{Beginning}
use Rattle.linetexts.specs.Lists.{Listed, ListMachine, list_of, list_lines, list_text}
use Rattle.trays.specs.declared.Tray.{Tray}
use Rattle.trays.specs.Replies.{refused}
use Rattle.trays.specs.Calls.{Call, installs_row, installs_column}
use Rattle.trayhistories.specs.History.{answer_of}
use Rattle.traytext.specs.Lines.{Meaning, again, call, row_file, column_file, malformed, line_in}
use Rattle.traytext.specs.Answers.{most_answer, Response, began, replied, unread, is_malformed, response_text}
use Rattle.traylines.specs.Running.{bytes_room, LineOutcome, line_step}

abbrev pub tray_room : ℕ
tray_room = 7 + 2 * bytes_room

abbrev pub told_as : LineOutcome → Outcome (Listed Tray)
told_as o = record { text = response_text o.response; state = list_of o.state (is_malformed o.response) }

abbrev pub tray_list : ListMachine Tray
tray_list = record {
  step = λ t w. told_as (line_step t (line_in w));
  stray = λ t. told_as (line_step t malformed);
  room = tray_room;
  most = most_answer;
}

abbrev pub tray_lines : LineMachine Beginning (Listed Tray)
tray_lines = list_lines tray_list

-- ---- the right answers, by the calls alone
abbrev pub file_call : Option ℕ → Call → List Call → List Call
file_call none c h = c ∷ h
file_call (some number) c h = h

abbrev pub file_response : Option ℕ → Response → Response
file_response none a = a
file_response (some number) a = replied (refused number)

abbrev pub history_after : List Call → Meaning → Option (List Call)
history_after h again = some []
history_after h (call c) = some (c ∷ h)
history_after h (row_file f) = some (file_call (refusal f) (installs_row (rule_of f)) h)
history_after h (column_file f) = some (file_call (refusal f) (installs_column (rule_of f)) h)
history_after h malformed = none

abbrev pub right_response : List Call → Meaning → Response
right_response h again = began
right_response h (call c) = replied (answer_of h c)
right_response h (row_file f) = file_response (refusal f) (replied (answer_of h (installs_row (rule_of f))))
right_response h (column_file f) = file_response (refusal f) (replied (answer_of h (installs_column (rule_of f))))
right_response h malformed = unread

abbrev pub right_answer : List Call → List ℕ → List ℕ
right_answer h l = response_text (right_response h (line_in l))

abbrev pub calls_after : List Call → List ℕ → Option (List Call)
calls_after h l = history_after h (line_in l)

abbrev pub right_text : Option (List Call) → List (List ℕ) → List ℕ
right_text h ls = list_text [] right_answer calls_after h ls
