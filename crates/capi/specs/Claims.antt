-- What reading a file answers, and the outcome of a call or of a recorded list, can be read back
-- from the numbers that C is given; proofs/ReadBack.antt proves it.
use Rattle.std.specs.Prelude.{◌≡◌, List, ℕ}
use Rattle.automaton.specs.declared.Rule.{Rule}
use Rattle.ruleformat.specs.Reader.{read_of}
use Rattle.calls.specs.declared.Judge.{Judge}
use Rattle.calls.specs.mirror.Steps.{install_of, load_of, open_of, deliver_of, withdraw_of, report_of}
use Rattle.replay.specs.Records.{Recorded, replay_of}
use Rattle.capi.specs.Numbers.{read_shown, install_shown, call_shown, deliver_shown, verdict_shown, replay_shown, read_read_back, install_read_back, call_read_back, deliver_read_back, verdict_read_back, replay_read_back}

pub record Claims : Type 0 where
  pub read_read_back_lem : (f : List ℕ) → read_read_back (read_shown (read_of f)) ≡ read_of f
  pub install_read_back_lem : (j : Judge) (r : Rule) → install_read_back (install_shown (install_of j r)) ≡ install_of j r
  pub load_read_back : (j : Judge) (f : List ℕ) → install_read_back (install_shown (load_of j f)) ≡ load_of j f
  pub open_read_back : (j : Judge) (n : ℕ) → call_read_back (call_shown (open_of j n)) ≡ open_of j n
  pub deliver_read_back_lem : (j : Judge) (p v : ℕ) (w : List ℕ) → deliver_read_back (deliver_shown (deliver_of j p v w)) ≡ deliver_of j p v w
  pub withdraw_read_back : (j : Judge) (p : ℕ) → call_read_back (call_shown (withdraw_of j p)) ≡ withdraw_of j p
  pub verdict_read_back_lem : (j : Judge) → verdict_read_back (verdict_shown (report_of j)) ≡ report_of j
  pub replay_read_back_lem : (so : Recorded) → replay_read_back (replay_shown (replay_of so)) ≡ replay_of so
