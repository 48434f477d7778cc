-- The law of the numbers that C is given for a tray: every field, case by case, with the numbers of
-- the kinds, and the outcome of each call read back from them. proofs/ReadBack.antt proves it.
use Rattle.std.specs.Prelude.{◌≡◌, List, ℕ}
use Rattle.flags.specs.Flags.{FlagLaw}
use Rattle.automaton.specs.declared.Rule.{Rule}
use Rattle.trays.specs.declared.Tray.{Tray}
use Rattle.trays.specs.Replies.{Judgement, waiting, says_yes, says_no, refused_with, accepted, installed, refused, refusal_of}
use Rattle.trays.specs.mirror.Steps.{Outcome, install_row_of, install_column_of, open_of, deliver_of, withdraw_of}
use Rattle.c_trays.specs.Numbers.{install_shown, call_shown, verdict_shown, install_read_back, call_read_back, verdict_read_back}

pub record Claims : Type 0 where
  -- accepted and refused are by the number,
  pub install_flags : (o : Outcome) → FlagLaw (refusal_of o.reply) (install_shown o).accepted (install_shown o).refused
  pub call_flags : (o : Outcome) → FlagLaw (refusal_of o.reply) (call_shown o).accepted (call_shown o).refused
  -- each field is what the outcome has, and 0 where it is refused;
  pub installed_shown : (s m : ℕ) (t : Tray) → install_shown (record { reply = installed s m; state = t }) ≡ record { accepted = 1; refused = 0; sets = s; starts = m; tray = t }
  pub install_refused : (x : ℕ) (t : Tray) → install_shown (record { reply = refused x; state = t }) ≡ record { accepted = 0; refused = x; sets = 0; starts = 0; tray = t }
  pub call_taken : (t : Tray) → call_shown (record { reply = accepted; state = t }) ≡ record { accepted = 1; refused = 0; tray = t }
  pub call_refused : (x : ℕ) (t : Tray) → call_shown (record { reply = refused x; state = t }) ≡ record { accepted = 0; refused = x; tray = t }
  -- the kinds of a verdict
  pub verdict_refused : (x : ℕ) → verdict_shown (refused_with x) ≡ record { kind = 0; number = x }
  pub waits : (empty : ℕ) → verdict_shown (waiting empty) ≡ record { kind = 1; number = empty }
  pub says_yes_lem : verdict_shown says_yes ≡ record { kind = 2; number = 0 }
  pub says_no_lem : verdict_shown says_no ≡ record { kind = 3; number = 0 }
  -- nothing is lost
  pub row_read_back : (t : Tray) (r : Rule) → install_read_back (install_shown (install_row_of t r)) ≡ install_row_of t r
  pub column_read_back : (t : Tray) (r : Rule) → install_read_back (install_shown (install_column_of t r)) ≡ install_column_of t r
  pub open_read_back : (t : Tray) (w n : ℕ) → call_read_back (call_shown (open_of t w n)) ≡ open_of t w n
  pub deliver_read_back_lem : (t : Tray) (p : ℕ) (b : List ℕ) → call_read_back (call_shown (deliver_of t p b)) ≡ deliver_of t p b
  pub withdraw_read_back : (t : Tray) (p : ℕ) → call_read_back (call_shown (withdraw_of t p)) ≡ withdraw_of t p
  -- of whatever a verdict says
  pub verdict_read_back_lem : (v : Judgement) → verdict_read_back (verdict_shown v) ≡ v
