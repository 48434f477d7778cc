-- What document 02, R-13, answers to a tray's call, and what each case of the code's answers says.
--
--   Judgement            what a verdict says; it has no count
--     waiting e          e bands are empty
--     says_yes, says_no  yes, no
--     refused_with x     the call was refused with the number x
--   Reply                what is answered to a call
--     accepted           of opening, delivering and withdrawing
--     installed sets m   a rule was installed: the number of sets and M
--     judged v           a verdict was asked for: it is v
--     refused x          a call other than the verdict was refused with the number x
--   refusal_in v, refusal_of a  the number of the refusal, or none where v or a is none
--   reply_by number a    refused with the number, or a where there is none
--   with_sets r          what the installation of the rule r is answered where it is accepted
--   install_means, call_means, verdict_means  what each case of the code's answers says
use Rattle.std.proofs.Math.Option.{Option, none, some}
use Rattle.std.specs.Prelude.{Result, Ok, Err, ℕ, length}
use Rattle.base.specs.declared.Refusal.{Refusal}
use Rattle.base.specs.Answers.{refusal_number}
use Rattle.automaton.specs.declared.Rule.{Rule}
use Rattle.subsets.specs.Sets.{sets_of}
use Rattle.delegates.specs.Claims.{starts_in}
use Rattle.calls.specs.declared.Sizes.{Sizes}
use Rattle.trays.specs.declared.TrayVerdict.{TrayVerdict}
use Rattle.trays.specs.declared.TrayVerdict.TheVariants as verdict

pub data Judgement : Type 0 where
  waiting : ℕ → Judgement
  says_yes : Judgement
  says_no : Judgement
  refused_with : ℕ → Judgement

pub data Reply : Type 0 where
  accepted : Reply
  installed : ℕ → ℕ → Reply
  judged : Judgement → Reply
  refused : ℕ → Reply

abbrev pub refusal_in : Judgement → Option ℕ
refusal_in (waiting empty) = none
refusal_in says_yes = none
refusal_in says_no = none
refusal_in (refused_with number) = some number

abbrev pub refusal_of : Reply → Option ℕ
refusal_of accepted = none
refusal_of (installed sets starts) = none
refusal_of (judged v) = refusal_in v
refusal_of (refused number) = some number

abbrev pub reply_by : Option ℕ → Reply → Reply
reply_by none a = a
reply_by (some number) a = refused number

-- a rule that is installed: the number of its sets, and M
abbrev pub with_sets : Rule → Reply
with_sets r = installed (length (sets_of r.targets r.n r.k)) (starts_in r).startcount

abbrev pub install_means : Result Sizes Refusal → Reply
install_means (Ok sizes) = installed sizes.sets sizes.starts
install_means (Err refusal) = refused (refusal_number refusal)

abbrev pub call_means : Result (Unit {0}) Refusal → Reply
call_means (Ok _) = accepted
call_means (Err refusal) = refused (refusal_number refusal)

abbrev pub verdict_means : TrayVerdict → Judgement
verdict_means (verdict.Waiting empty) = waiting empty
verdict_means verdict.Yes = says_yes
verdict_means verdict.No = says_no
verdict_means (verdict.Refused refusal) = refused_with (refusal_number refusal)
