-- A text of calls and questions, that comes in blocks.
--
--   told_room           the bytes in which lines are told apart: one less than is kept of a line
--   call_list           what comes of a line in a list that goes on
--   call_lines          the machine that answers lines
--   history_after h m   the calls since the last empty line: h, and then a line that means m in a
--                       recorded list. None where a malformed line ended the list: no call is made
--                       until an empty line
--   right_response h m  the right answer to such a line after the calls h
--   right_to h q        the right answer to the question q after the calls h, as text: by the list
--                       alone
--   right_line h m, known_after h m  the right answer to a line of the meaning m after the calls h, and
--                       the calls after it: a question is none
--   right_text h ls     the right answer to each line, after the calls h and the lines before it
use Rattle.std.specs.Prelude.{List, [], ◌∷◌, ℕ, pred}
use Rattle.std.proofs.Math.Option.{Option, none, some}
use Rattle.limits.specs.Limits.{line_room, answer_room}
use Rattle.calls.specs.declared.Judge.{Judge}
use Rattle.calls.specs.Calls.{Call}
use Rattle.histories.specs.History.{answer_of}
use Rattle.losses.specs.Answers.{finding_in, spot_at}
use Rattle.calltext.specs.Meaning.{Meaning, again, call, malformed}
use Rattle.calltext.specs.Answers.{Response, began, replied, unread, response_text}
use Rattle.questions.specs.Meaning.{Question, diagnoses, locates, LineMeaning, question, recorded, meaning_in}
use Rattle.questions.specs.Answers.{finding_text, spot_text}
use Rattle.linetexts.specs.Feeding.{LineMachine}
use Rattle.linetexts.specs.Beginnings.{Beginning}
use Rattle.linetexts.specs.Lists.{Listed, ListMachine, list_lines, list_text}
use Rattle.linebuffer.specs.Meanings.{line_told}

abbrev pub told_room : ℕ
told_room = pred line_room

abbrev pub call_list : ListMachine Judge
call_list = record {
  step = λ j w. line_told j (meaning_in w);
  stray = λ j. line_told j (recorded malformed);
  room = told_room;
  most = answer_room;
}

abbrev pub call_lines : LineMachine Beginning (Listed Judge)
call_lines = list_lines call_list

-- ---- the right answers, by the calls alone
abbrev pub history_after : List Call → Meaning → Option (List Call)
history_after h again = some []
history_after h (call c) = some (c ∷ h)
history_after h malformed = none

abbrev pub right_response : List Call → Meaning → Response
right_response h again = began
right_response h (call c) = replied (answer_of h c)
right_response h malformed = unread

abbrev pub right_to : List Call → Question → List ℕ
right_to h diagnoses = finding_text (finding_in h)
right_to h (locates p w) = spot_text (spot_at h p w)

abbrev pub right_line : List Call → LineMeaning → List ℕ
right_line h (question q) = right_to h q
right_line h (recorded m) = response_text (right_response h m)

abbrev pub known_after : List Call → LineMeaning → Option (List Call)
known_after h (question q) = some h
known_after h (recorded m) = history_after h m

abbrev pub right_answer : List Call → List ℕ → List ℕ
right_answer h l = right_line h (meaning_in l)

abbrev pub calls_after : List Call → List ℕ → Option (List Call)
calls_after h l = known_after h (meaning_in l)

abbrev pub right_text : Option (List Call) → List (List ℕ) → List ℕ
right_text h ls = list_text [] right_answer calls_after h ls
