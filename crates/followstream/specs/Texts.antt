-- A text of lines for `tracefollow`, that comes in blocks.
--
--   follow_room         the bytes in which lines are told apart: `next ` and two hex digits for each of
--                       65,537 bytes, which are too many
--   told_as o           the outcome of a line, with its answer as text; a malformed line ends its list
--   follow_list         what comes of a line in a list that goes on
--   follow_lines        the machine that answers lines
--   history_after h o   the calls h, and then a line of the meaning o; none where a malformed line
--                       ended the list: no call is made until an empty line
--   right_response h o  the right answer to a line of the meaning o after the calls h
--   right_text h ls     the right answer to each line, after the calls h and the lines before it
use Rattle.std.specs.Prelude.{List, [], ◌∷◌, ℕ, ◌+◌, ◌*◌}
use Rattle.std.proofs.Math.Option.{Option, none, some}
use Rattle.base.specs.Options.{is_none}
use Rattle.limits.specs.Limits.{bytes_room}
use Rattle.linetexts.specs.Feeding.{Outcome, LineMachine}
use Rattle.linetexts.specs.Beginnings.{Beginning}
use Rattle.linetexts.specs.Lists.{Listed, ListMachine, list_of, list_lines, list_text}
use Rattle.followcalls.specs.declared.FollowState.{FollowState}
use Rattle.followcalls.specs.Calls.{Call, Reply, Outcome as CallOutcome}
use Rattle.followcalls.specs.Histories.{right_reply}
use Rattle.followlines.specs.Lines.{line_in}
use Rattle.followlines.specs.Answers.{most_answer, response_text, line_step}

abbrev pub follow_room : ℕ
follow_room = 5 + 2 * bytes_room

abbrev pub told_as : CallOutcome → Outcome (Listed FollowState)
told_as o = record { text = response_text o.reply; state = list_of o.state (is_none o.reply) }

abbrev pub follow_list : ListMachine FollowState
follow_list = record {
  step = λ s w. told_as (line_step s (line_in w));
  stray = λ s. told_as (line_step s none);
  room = follow_room;
  most = most_answer;
}

abbrev pub follow_lines : LineMachine Beginning (Listed FollowState)
follow_lines = list_lines follow_list

-- ---- the right answers, by the calls alone
abbrev pub history_after : List Call → Option Call → Option (List Call)
history_after h none = none
history_after h (some c) = some (c ∷ h)

abbrev pub right_response : List Call → Option Call → Option Reply
right_response h none = none
right_response h (some c) = some (right_reply h c)

abbrev pub right_answer : List Call → List ℕ → List ℕ
right_answer h l = response_text (right_response h (line_in l))

abbrev pub calls_after : List Call → List ℕ → Option (List Call)
calls_after h l = history_after h (line_in l)

abbrev pub right_text : Option (List Call) → List (List ℕ) → List ℕ
right_text h ls = list_text [] right_answer calls_after h ls
