-- The numbers of each case of an answer are those of what it says. Assumes nothing.
use mathlib.Core.Path.{◌≡◌, refl}
use Rattle.std.proofs.Common.{Result, Ok, Err}
use Rattle.base.specs.declared.Refusal.{Refusal}
use Rattle.base.specs.Answers.{result_number}
use Rattle.flags.specs.declared.AnswerFlags.{AnswerFlags}
use Rattle.flags.specs.Flags.{flag_by, refused_by}
use Rattle.trays.specs.declared.CallResult.{CallResult}
use Rattle.trays.specs.Replies.{call_means}
use Rattle.trays.specs.mirror.Steps.{call_outcome}
use Rattle.c_trays.specs.Numbers.{call_shown}

pub call_shown_lem : (f : AnswerFlags) (r : CallResult) → f.accepted ≡ flag_by (result_number r.answer) → f.refused ≡ refused_by (result_number r.answer)
    → record { accepted = f.accepted; refused = f.refused; tray = r.tray } ≡ call_shown (call_outcome r)
call_shown_lem f r a n = rw (a, n) (by_answer r.answer)
  where
    by_answer : (x : Result (Unit {0}) Refusal)
        → record { accepted = flag_by (result_number x); refused = refused_by (result_number x); tray = r.tray } ≡ call_shown (record { reply = call_means x; state = r.tray })
    by_answer (Ok _) = refl
    by_answer (Err refusal) = refl
