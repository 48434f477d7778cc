-- The outcome of a line on a judge.
--
--   LineOutcome            the outcome of a line: what it is answered, and the judge that it leaves
--   reply_of o             the outcome of a line that records a call, from the call's
--   line_step j m          the outcome of a line of the meaning m on the judge j
--   run_outcome r           the outcome that the code's result stands for
--   Scratch before after   all that holds of a buffer that is lent for the bytes of a line: its
--                          length stays. What it has in it before is of no matter, and what is
--                          left in it is free, also where the call is refused
use Rattle.std.specs.Prelude.{◌≡◌, List, ℕ, length}
use Rattle.calls.specs.declared.Judge.{Judge}
use Rattle.calls.specs.Replies.{Outcome}
use Rattle.calls.specs.mirror.Steps.{fresh, step_of}
use Rattle.calltext.specs.Meaning.{Meaning, again, call, malformed}
use Rattle.calltext.specs.Answers.{Response, began, replied, unread, answer_means}
use Rattle.callrun.specs.declared.LineRun.{LineRun}

pub record LineOutcome : Type 0 where
  pub response : Response
  pub state : Judge

abbrev pub reply_of : Outcome → LineOutcome
reply_of o = record { response = replied o.reply; state = o.state }

-- an empty line begins with a fresh judge, and a malformed one changes nothing
abbrev pub line_step : Judge → Meaning → LineOutcome
line_step j again = record { response = began; state = fresh }
line_step j (call c) = reply_of (step_of j c)
line_step j malformed = record { response = unread; state = j }

abbrev pub run_outcome : LineRun → LineOutcome
run_outcome r = record { response = answer_means r.answer; state = r.judge }

abbrev pub Scratch : List ℕ → List ℕ → Type 0
Scratch before after = length after ≡ length before
