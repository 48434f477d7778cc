-- How a line of `mapjudge` is answered.
--
--   answer_to s o    the answer to a line of the meaning o on the state s
--   left_by s o      the state that the line leaves
--   is_malformed o   the line is malformed
--   Says s o ..      what a function that answers the line tells: its answer was written, and whether
--                    the line is malformed, which ends its list
--   Replies a ..     the same of a call that was replied to
--   Scratch before after   all that holds of a buffer that is lent for the bytes of a line: its
--                          length stays
use Rattle.std.specs.Prelude.{◌≡◌, Bool, true, false, List, ℕ, length}
use Rattle.std.proofs.Math.Option.{Option, none, some}
use Rattle.text.specs.Writing.{Wrote}
use Rattle.answers.specs.Answers.{malformed_text}
use Rattle.mapcalls.specs.declared.MapState.{MapState}
use Rattle.mapcalls.specs.Calls.{Call, Reply, reply_of, next_of}
use Rattle.mapreplies.specs.Replies.{reply_text}
use Rattle.maplines.specs.declared.Said.{Said}

abbrev pub answer_to : MapState → Option Call → List ℕ
answer_to s none = malformed_text
answer_to s (some c) = reply_text (reply_of s c)

abbrev pub left_by : MapState → Option Call → MapState
left_by s none = s
left_by s (some c) = next_of s c

abbrev pub is_malformed : Option Call → Bool
is_malformed none = true
is_malformed (some c) = false

pub record Says (s : MapState) (o : Option Call) (before after : List ℕ) (r : Said) : Type 0 where
  pub text : Wrote before 0 (answer_to s o) after r.written
  pub ended : r.ended ≡ is_malformed o

pub record Replies (a : Reply) (before after : List ℕ) (r : Said) : Type 0 where
  pub text : Wrote before 0 (reply_text a) after r.written
  pub goes_on : r.ended ≡ false

abbrev pub Scratch : List ℕ → List ℕ → Type 0
Scratch before after = length after ≡ length before
