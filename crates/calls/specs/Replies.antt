-- What document 01 answers to a call, and what each case of the code's answers says.
--
--   Judgement            what a verdict says
--     waiting e          e places are empty
--     yes_with c, no_with c  yes, no, with the count
--     refused_with x     the call was refused with the number x
--   Reported             what the call verdict reports: the verdict, the number of text bytes, the
--                        whole quotient of the count by it, and the remainder
--   Reply                what is answered to a call
--     accepted           of opening and withdrawing
--     installed sets m   a rule was installed: the number of sets and M
--     delivered looked   a delivery was accepted: for how many bytes of its text a successor was
--                        looked up (document 02, R-2)
--     judged r           a verdict was asked for: r is reported
--     refused x          a call other than the verdict was refused with the number x
--   refusal_in v, refusal_of a  the number of the refusal, or none where v or a is none
--   install_means .. verdict_means, report_means  what each case of the code's answers says
--   Outcome              the outcome of a call: its reply, and the state that it leaves
--   install_outcome .. deliver_outcome  the outcome that the code's result stands for
use Rattle.std.proofs.Math.Option.{Option, none, some}
use Rattle.std.specs.Prelude.{Result, Ok, Err, ℕ}
use Rattle.base.specs.declared.Refusal.{Refusal}
use Rattle.base.specs.Answers.{refusal_number}
use Rattle.calls.specs.declared.Sizes.{Sizes}
use Rattle.calls.specs.declared.Judge.{Judge}
use Rattle.calls.specs.declared.InstallResult.{InstallResult}
use Rattle.calls.specs.declared.CallResult.{CallResult}
use Rattle.calls.specs.declared.DeliverResult.{DeliverResult}
use Rattle.calls.specs.declared.Report.{Report}
use Rattle.calls.specs.declared.Verdict.{Verdict}
use Rattle.calls.specs.declared.Verdict.TheVariants.{Waiting, Yes, No, Refused}

pub data Judgement : Type 0 where
  waiting : ℕ → Judgement
  yes_with : ℕ → Judgement
  no_with : ℕ → Judgement
  refused_with : ℕ → Judgement

pub record Reported : Type 0 where
  pub verdict : Judgement
  pub bytes : ℕ
  pub quotient : ℕ
  pub remainder : ℕ

pub data Reply : Type 0 where
  accepted : Reply
  installed : ℕ → ℕ → Reply
  delivered : ℕ → Reply
  judged : Reported → Reply
  refused : ℕ → Reply

abbrev pub refusal_in : Judgement → Option ℕ
refusal_in (waiting empty) = none
refusal_in (yes_with count) = none
refusal_in (no_with count) = none
refusal_in (refused_with number) = some number

abbrev pub refusal_of : Reply → Option ℕ
refusal_of accepted = none
refusal_of (installed sets starts) = none
refusal_of (delivered looked) = none
refusal_of (judged r) = refusal_in r.verdict
refusal_of (refused number) = some number

abbrev pub install_means : Result Sizes Refusal → Reply
install_means (Ok sizes) = installed sizes.sets sizes.starts
install_means (Err refusal) = refused (refusal_number refusal)

abbrev pub call_means : Result (Unit {0}) Refusal → Reply
call_means (Ok _) = accepted
call_means (Err refusal) = refused (refusal_number refusal)

abbrev pub deliver_means : Result ℕ Refusal → Reply
deliver_means (Ok looked) = delivered looked
deliver_means (Err refusal) = refused (refusal_number refusal)

abbrev pub verdict_means : Verdict → Judgement
verdict_means (Waiting empty) = waiting empty
verdict_means (Yes count) = yes_with count
verdict_means (No count) = no_with count
verdict_means (Refused refusal) = refused_with (refusal_number refusal)

abbrev pub report_means : Report → Reported
report_means r = record { verdict = verdict_means r.verdict; bytes = r.bytes; quotient = r.quotient; remainder = r.remainder }

-- ---- with the state that is left
pub record Outcome : Type 0 where
  pub reply : Reply
  pub state : Judge

abbrev pub install_outcome : InstallResult → Outcome
install_outcome r = record { reply = install_means r.answer; state = r.judge }

abbrev pub call_outcome : CallResult → Outcome
call_outcome r = record { reply = call_means r.answer; state = r.judge }

abbrev pub deliver_outcome : DeliverResult → Outcome
deliver_outcome r = record { reply = deliver_means r.answer; state = r.judge }
