-- The law of the numbers that C is given, beside the definitions: every field of a result, case by
-- case. proofs/Laws.antt proves it.
--
--   Flags         `accepted` is 1 or 0, 1 exactly where nothing is refused, and then `refused` is
--                 0; where it is 0, `refused` has the number
--   Values        the fields of each case of an outcome: what it has, and 0 where it is refused
--   ReportedAs v k x    a report with the verdict v is shown as kind k with the number x, and its
--                 other numbers as they are: of a verdict and of a recorded list
--   Kinds         the kinds of a verdict and of a recorded list
use Rattle.std.specs.Prelude.{◌≡◌, ℕ}
use Rattle.flags.specs.Flags.{FlagLaw}
use Rattle.ruleformat.specs.Reader.{Reading}
use Rattle.calls.specs.declared.Judge.{Judge}
use Rattle.calls.specs.Replies.{Judgement, waiting, yes_with, no_with, refused_with, accepted, installed, delivered, refused, refusal_of, Outcome}
use Rattle.replay.specs.Records.{verdict, malformed_line}
use Rattle.capi.specs.Numbers.{read_shown, install_shown, call_shown, deliver_shown, verdict_shown, replay_shown}

pub record Flags : Type 0 where
  pub of_reading : (r : Reading) → FlagLaw r.number (read_shown r).accepted (read_shown r).refused
  pub of_installing : (o : Outcome) → FlagLaw (refusal_of o.reply) (install_shown o).accepted (install_shown o).refused
  pub of_calls : (o : Outcome) → FlagLaw (refusal_of o.reply) (call_shown o).accepted (call_shown o).refused
  pub of_delivering : (o : Outcome) → FlagLaw (refusal_of o.reply) (deliver_shown o).accepted (deliver_shown o).refused

pub record Values : Type 0 where
  pub rule : (r : Reading) → (read_shown r).rule ≡ r.rule
  -- of an installation and of a load
  pub install_accepted : (s m : ℕ) (j : Judge)
      → install_shown (record { reply = installed s m; state = j }) ≡ record { accepted = 1; refused = 0; sets = s; starts = m; judge = j }
  pub install_refused : (x : ℕ) (j : Judge)
      → install_shown (record { reply = refused x; state = j }) ≡ record { accepted = 0; refused = x; sets = 0; starts = 0; judge = j }
  -- of opening and of withdrawing
  pub call_accepted : (j : Judge) → call_shown (record { reply = accepted; state = j }) ≡ record { accepted = 1; refused = 0; judge = j }
  pub call_refused : (x : ℕ) (j : Judge) → call_shown (record { reply = refused x; state = j }) ≡ record { accepted = 0; refused = x; judge = j }
  pub deliver_accepted : (n : ℕ) (j : Judge)
      → deliver_shown (record { reply = delivered n; state = j }) ≡ record { accepted = 1; refused = 0; looked = n; judge = j }
  pub deliver_refused : (x : ℕ) (j : Judge)
      → deliver_shown (record { reply = refused x; state = j }) ≡ record { accepted = 0; refused = x; looked = 0; judge = j }

abbrev pub ReportedAs : Judgement → ℕ → ℕ → Type 0
ReportedAs v kind number =
    (b q m : ℕ) → (verdict_shown (record { verdict = v; bytes = b; quotient = q; remainder = m }) ≡ record { kind = kind; number = number; bytes = b; quotient = q; remainder = m })
    × (replay_shown (verdict (record { verdict = v; bytes = b; quotient = q; remainder = m })) ≡ record { kind = kind; number = number; bytes = b; quotient = q; remainder = m })

pub record Kinds : Type 0 where
  pub refused_is_0 : (x : ℕ) → ReportedAs (refused_with x) 0 x
  pub waiting_is_1 : (empty : ℕ) → ReportedAs (waiting empty) 1 empty
  pub yes_is_2 : (count : ℕ) → ReportedAs (yes_with count) 2 count
  pub no_is_3 : (count : ℕ) → ReportedAs (no_with count) 3 count
  pub malformed_is_4 : (i : ℕ) → replay_shown (malformed_line i) ≡ record { kind = 4; number = i; bytes = 0; quotient = 0; remainder = 0 }

pub record Laws : Type 0 where
  pub flags : Flags
  pub values : Values
  pub kinds : Kinds
