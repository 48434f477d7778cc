-- The numbers that C is given for the outcome of a tray's call. Every field is fixed: what a result
-- has no use for is 0.
--
--   flag_of a, refused_of a      the fields `accepted` and `refused` for the reply a: 1 and 0, or 0
--                                and the number of the refusal
--   sets_field a, starts_field a  the fields `sets` and `starts`
--   install_shown o              the outcome of either installation as a result
--   call_shown o                 that of an opening, a delivery or a withdrawal
--   kind_of v, number_of v         a verdict: kind 0 refused with its number, 1 waiting with so many
--                                empty bands, 2 yes and 3 no with 0
--   verdict_shown v              what the verdict says as a result
--   install_read_back .. verdict_read_back  what such a result says, read back from its numbers
-- No other reply is given to these calls; the lines for others are there so that every case has a
-- value.
use Rattle.std.specs.Prelude.{cond, ℕ, eqb}
use Rattle.flags.specs.Flags.{flag_by, refused_by}
use Rattle.trays.specs.Replies.{Judgement, waiting, says_yes, says_no, refused_with, Reply, accepted, installed, judged, refused, refusal_of}
use Rattle.trays.specs.mirror.Steps.{Outcome}
use Rattle.c_trays.specs.declared.InstallNumbers.{InstallNumbers}
use Rattle.c_trays.specs.declared.CallNumbers.{CallNumbers}
use Rattle.c_trays.specs.declared.VerdictNumbers.{VerdictNumbers}

-- ---- the calls that may change the tray
abbrev pub flag_of : Reply → ℕ
flag_of a = flag_by (refusal_of a)

abbrev pub refused_of : Reply → ℕ
refused_of a = refused_by (refusal_of a)

abbrev pub sets_field : Reply → ℕ
sets_field (installed sets starts) = sets
sets_field accepted = 0
sets_field (judged v) = 0
sets_field (refused number) = 0

abbrev pub starts_field : Reply → ℕ
starts_field (installed sets starts) = starts
starts_field accepted = 0
starts_field (judged v) = 0
starts_field (refused number) = 0

abbrev pub install_shown : Outcome → InstallNumbers
install_shown o = record {
  accepted = flag_of o.reply;
  refused = refused_of o.reply;
  sets = sets_field o.reply;
  starts = starts_field o.reply;
  tray = o.state;
}

abbrev pub call_shown : Outcome → CallNumbers
call_shown o = record { accepted = flag_of o.reply; refused = refused_of o.reply; tray = o.state }

-- ---- the verdict
abbrev pub kind_of : Judgement → ℕ
kind_of (refused_with number) = 0
kind_of (waiting empty) = 1
kind_of says_yes = 2
kind_of says_no = 3

abbrev pub number_of : Judgement → ℕ
number_of (refused_with number) = number
number_of (waiting empty) = empty
number_of says_yes = 0
number_of says_no = 0

abbrev pub verdict_shown : Judgement → VerdictNumbers
verdict_shown v = record { kind = kind_of v; number = number_of v }

-- ---- read back: what the header says of the numbers
-- `a` is the reply of a call that was accepted
abbrev pub read_back_by : ℕ → ℕ → Reply → Reply
read_back_by flag number a = cond (eqb flag 1) a (refused number)

abbrev pub install_read_back : InstallNumbers → Outcome
install_read_back r = record { reply = read_back_by r.accepted r.refused (installed r.sets r.starts); state = r.tray }

abbrev pub call_read_back : CallNumbers → Outcome
call_read_back r = record { reply = read_back_by r.accepted r.refused accepted; state = r.tray }

abbrev pub verdict_read_back : VerdictNumbers → Judgement
verdict_read_back r =
    cond (eqb r.kind 0) (refused_with r.number) (cond (eqb r.kind 1) (waiting r.number) (cond (eqb r.kind 2) says_yes says_no))
