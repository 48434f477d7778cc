-- The numbers that C is given for the outcome of a call. Every field is fixed: what a result has no
-- use for is 0.
--
--   flag_of a, refused_of a      the fields `accepted` and `refused` for the reply a
--   sets_field a, starts_field a, looked_field a  the fields `sets`, `starts` and `looked`
--   read_shown r                 what reading answers: the rule is all zeros where it is refused
--   install_shown .. deliver_shown  an outcome as a result: of an installation and of a load, of
--                                opening and of withdrawing, of a delivery
--   verdict_shown r              what the call verdict reports: its kind and number, and the bytes,
--                                the quotient and the remainder beside them
--   replay_shown t               the same for a recorded list; kind 4: the line of that number is
--                                malformed
--   read_read_back .. replay_read_back   what such a result says, read back from its numbers
-- No other reply is given to these calls; the lines for others are there so that every case has a
-- value.
use Rattle.std.specs.Prelude.{cond, ℕ, eqb}
use Rattle.verdicts.specs.Shown.{kind_of, number_of}
use Rattle.flags.specs.Flags.{flag_by, refused_by, refusal_by}
use Rattle.ruleformat.specs.Reader.{Reading}
use Rattle.calls.specs.Replies.{Judgement, waiting, yes_with, no_with, refused_with, Reported, Reply, accepted, installed, judged, refused, refusal_of, delivered, Outcome}
use Rattle.replay.specs.Records.{ReplayReply, verdict, malformed_line}
use Rattle.capi.specs.declared.ReadNumbers.{ReadNumbers}
use Rattle.capi.specs.declared.InstallNumbers.{InstallNumbers}
use Rattle.capi.specs.declared.CallNumbers.{CallNumbers}
use Rattle.capi.specs.declared.DeliverNumbers.{DeliverNumbers}
use Rattle.capi.specs.declared.VerdictNumbers.{VerdictNumbers}
use Rattle.capi.specs.declared.ReplayNumbers.{ReplayNumbers}

-- ---- reading
abbrev pub read_shown : Reading → ReadNumbers
read_shown r = record { accepted = flag_by r.number; refused = refused_by r.number; rule = r.rule }

-- ---- the calls that may change the state
abbrev pub flag_of : Reply → ℕ
flag_of a = flag_by (refusal_of a)

abbrev pub refused_of : Reply → ℕ
refused_of a = refused_by (refusal_of a)

abbrev pub sets_field : Reply → ℕ
sets_field (installed sets starts) = sets
sets_field accepted = 0
sets_field (delivered looked) = 0
sets_field (judged v) = 0
sets_field (refused number) = 0

abbrev pub starts_field : Reply → ℕ
starts_field (installed sets starts) = starts
starts_field accepted = 0
starts_field (delivered looked) = 0
starts_field (judged v) = 0
starts_field (refused number) = 0

abbrev pub looked_field : Reply → ℕ
looked_field (delivered looked) = looked
looked_field accepted = 0
looked_field (installed sets starts) = 0
looked_field (judged v) = 0
looked_field (refused number) = 0

abbrev pub install_shown : Outcome → InstallNumbers
install_shown o = record {
  accepted = flag_of o.reply;
  refused = refused_of o.reply;
  sets = sets_field o.reply;
  starts = starts_field o.reply;
  judge = o.state;
}

abbrev pub call_shown : Outcome → CallNumbers
call_shown o = record { accepted = flag_of o.reply; refused = refused_of o.reply; judge = o.state }

abbrev pub deliver_shown : Outcome → DeliverNumbers
deliver_shown o = record {
  accepted = flag_of o.reply;
  refused = refused_of o.reply;
  looked = looked_field o.reply;
  judge = o.state;
}

-- ---- the verdict
abbrev pub verdict_shown : Reported → VerdictNumbers
verdict_shown r = record {
  kind = kind_of r.verdict;
  number = number_of r.verdict;
  bytes = r.bytes;
  quotient = r.quotient;
  remainder = r.remainder;
}

abbrev pub replay_shown : ReplayReply → ReplayNumbers
replay_shown (verdict r) = record {
  kind = kind_of r.verdict;
  number = number_of r.verdict;
  bytes = r.bytes;
  quotient = r.quotient;
  remainder = r.remainder;
}
replay_shown (malformed_line i) = record { kind = 4; number = i; bytes = 0; quotient = 0; remainder = 0 }

-- ---- read back: what the header says of the numbers
abbrev pub read_read_back : ReadNumbers → Reading
read_read_back r = record { number = refusal_by r.accepted r.refused; rule = r.rule }

-- `a` is the reply of a call that was accepted
abbrev pub read_back_by : ℕ → ℕ → Reply → Reply
read_back_by flag number a = cond (eqb flag 1) a (refused number)

abbrev pub install_read_back : InstallNumbers → Outcome
install_read_back r = record { reply = read_back_by r.accepted r.refused (installed r.sets r.starts); state = r.judge }

abbrev pub call_read_back : CallNumbers → Outcome
call_read_back r = record { reply = read_back_by r.accepted r.refused accepted; state = r.judge }

abbrev pub deliver_read_back : DeliverNumbers → Outcome
deliver_read_back r = record { reply = read_back_by r.accepted r.refused (delivered r.looked); state = r.judge }

abbrev pub judgement_back : ℕ → ℕ → Judgement
judgement_back kind number =
    cond (eqb kind 0) (refused_with number) (cond (eqb kind 1) (waiting number) (cond (eqb kind 2) (yes_with number) (no_with number)))

abbrev pub verdict_read_back : VerdictNumbers → Reported
verdict_read_back r = record {
  verdict = judgement_back r.kind r.number;
  bytes = r.bytes;
  quotient = r.quotient;
  remainder = r.remainder;
}

abbrev pub replay_read_back : ReplayNumbers → ReplayReply
replay_read_back r =
    cond (eqb r.kind 4) (malformed_line r.number)
    (verdict (record {
      verdict = judgement_back r.kind r.number;
      bytes = r.bytes;
      quotient = r.quotient;
      remainder = r.remainder;
    }))
