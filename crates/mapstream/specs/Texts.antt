-- A text of lines for `mapjudge`, that comes in blocks.
--
--   map_room            the bytes in which lines are told apart: `run ` and two hex digits for each
--                       of 65,537 bytes, which are too many
--   step_of s o          what comes of a line of the meaning o on the state s; a malformed line ends
--                       its list
--   map_list             what comes of a line in a list that goes on
--   map_lines           the machine that answers lines
--   changes_held line h  the line that is held may change which profile there is
--   history_after h o   the calls h, and then a line of the meaning o; none where a malformed line
--                       ended the list: no call is made until an empty line
--   right_reply_to h o  the right answer to a line of the meaning o after the calls h
--   right_text h ls     the right answer to each line, after the calls h and the lines before it
use Rattle.std.specs.Prelude.{Bool, false, List, [], ◌∷◌, ℕ, ◌+◌, ◌*◌}
use Rattle.std.proofs.Math.Option.{Option, none, some}
use Rattle.limits.specs.Limits.{bytes_room}
use Rattle.longlines.specs.declared.Held.{Held}
use Rattle.longlines.specs.Holding.{held_meaning}
use Rattle.linetexts.specs.Feeding.{Outcome, LineMachine}
use Rattle.linetexts.specs.Beginnings.{Beginning}
use Rattle.linetexts.specs.Lists.{Listed, ListMachine, list_of, list_lines, list_text}
use Rattle.answers.specs.Answers.{malformed_text}
use Rattle.mapcalls.specs.declared.MapState.{MapState}
use Rattle.mapcalls.specs.Calls.{Call}
use Rattle.mapcalls.specs.Histories.{right_reply}
use Rattle.maplines.specs.Lines.{line_in, changes}
use Rattle.mapreplies.specs.Replies.{most_answer, reply_text}
use Rattle.maplines.specs.Answers.{answer_to, left_by, is_malformed}

abbrev pub map_room : ℕ
map_room = 4 + 2 * bytes_room

abbrev pub step_of : MapState → Option Call → Outcome (Listed MapState)
step_of s o = record { text = answer_to s o; state = list_of (left_by s o) (is_malformed o) }

abbrev pub map_list : ListMachine MapState
map_list = record {
  step = λ s w. step_of s (line_in w);
  stray = λ s. step_of s none;
  room = map_room;
  most = most_answer;
}

abbrev pub map_lines : LineMachine Beginning (Listed MapState)
map_lines = list_lines map_list

abbrev pub changes_held : List ℕ → Held → Bool
changes_held line h = held_meaning changes false line h

-- ---- the right answers, by the calls alone
abbrev pub history_after : List Call → Option Call → Option (List Call)
history_after h none = none
history_after h (some c) = some (c ∷ h)

abbrev pub right_reply_to : List Call → Option Call → List ℕ
right_reply_to h none = malformed_text
right_reply_to h (some c) = reply_text (right_reply h c)

abbrev pub right_answer : List Call → List ℕ → List ℕ
right_answer h l = right_reply_to h (line_in l)

abbrev pub calls_after : List Call → List ℕ → Option (List Call)
calls_after h l = history_after h (line_in l)

abbrev pub right_text : Option (List Call) → List (List ℕ) → List ℕ
right_text h ls = list_text [] right_answer calls_after h ls
