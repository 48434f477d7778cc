-- The numbers that C is given, read back: by cases of the calls' outcomes. Assumes nothing.
use mathlib.Core.Path.{◌≡◌, refl, ap}
use mathlib.Core.Bool.{false}
use mathlib.Core.List.{List}
use mathlib.Core.Option.{Option, none, some}
use Prim.Native.Nat.{ℕ}
use lib.Dec.{eqb}
use Rattle.base.specs.Conditions.{first_of}
use Rattle.automaton.specs.declared.Rule.{Rule}
use Rattle.ruleformat.specs.Refusals.{refusal}
use Rattle.ruleformat.specs.Reader.{rule_of, rule_by, read_of}
use Rattle.build.specs.mirror.Building.{built_of}
use Rattle.board.specs.Boards.{places_of, is_empty, comes_late, empty_board, filled_at, cleared_at}
use Rattle.calls.specs.declared.Judge.{Judge}
use Rattle.calls.specs.Replies.{Judgement, waiting, yes_with, no_with, refused_with, Reported, accepted, installed, delivered}
use Rattle.calls.specs.Calls.{install_number, load_number, open_conditions, deliver_conditions, withdraw_conditions}
use Rattle.calls.specs.mirror.Steps.{lacks_rule, lacks_board, with_board, outcome_by, with_rule, runs_at, install_of, load_of, open_of, deliver_of, withdraw_of, report_of}
use Rattle.histories.specs.History.{report_in}
use Rattle.replay.specs.Records.{Recorded, calls, malformed_at, verdict, replay_of}
use Rattle.verdicts.specs.Shown.{kind_of, number_of}
use Rattle.capi.specs.Numbers.{read_shown, install_shown, call_shown, deliver_shown, verdict_shown, replay_shown, read_read_back, install_read_back, call_read_back, deliver_read_back, judgement_back, verdict_read_back, replay_read_back}
use Rattle.capi.specs.Claims.{Claims}

-- of whatever number and rule a reading answers
read_by : (number : Option ℕ) (r : Rule) → read_read_back (read_shown (record { number = number; rule = r })) ≡ record { number = number; rule = r }
read_by none r = refl
read_by (some x) r = refl

module _ (j next : Judge) where
  -- of an installation and a load
  install_by_lem : (number : Option ℕ) (sets m : ℕ)
      → install_read_back (install_shown (outcome_by number (installed sets m) j next)) ≡ outcome_by number (installed sets m) j next
  install_by_lem none sets m = refl
  install_by_lem (some x) sets m = refl

  deliver_by_lem : (number : Option ℕ) (looked : ℕ) → deliver_read_back (deliver_shown (outcome_by number (delivered looked) j next)) ≡ outcome_by number (delivered looked) j next
  deliver_by_lem none looked = refl
  deliver_by_lem (some x) looked = refl

  -- of an opening and a withdrawal
  taken_by_lem : (number : Option ℕ) → call_read_back (call_shown (outcome_by number accepted j next)) ≡ outcome_by number accepted j next
  taken_by_lem none = refl
  taken_by_lem (some x) = refl

-- of whatever a verdict says and reports
judgement_by : (v : Judgement) → judgement_back (kind_of v) (number_of v) ≡ v
judgement_by (waiting empty) = refl
judgement_by (yes_with count) = refl
judgement_by (no_with count) = refl
judgement_by (refused_with number) = refl

verdict_by_lem : (r : Reported) → verdict_read_back (verdict_shown r) ≡ r
verdict_by_lem r =
    ap (λ (v : Judgement). record { verdict = v; bytes = r.bytes; quotient = r.quotient; remainder = r.remainder }) (judgement_by r.verdict)

-- its kind is not that of a malformed line
replay_by : (r : Reported) → replay_read_back (replay_shown (verdict r)) ≡ verdict r
replay_by r = rw (not_4 r.verdict) (ap verdict (verdict_by_lem r))
  where
    not_4 : (v : Judgement) → eqb (kind_of v) 4 ≡ false
    not_4 (waiting empty) = refl
    not_4 (yes_with count) = refl
    not_4 (no_with count) = refl
    not_4 (refused_with number) = refl

read_read_back_lem : (f : List ℕ) → read_read_back (read_shown (read_of f)) ≡ read_of f
read_read_back_lem f = read_by (refusal f) (rule_by (refusal f) f)

install_read_back_lem : (j : Judge) (r : Rule) → install_read_back (install_shown (install_of j r)) ≡ install_of j r
unfolding install_of
install_read_back_lem j r = install_by_lem j (with_rule r) (install_number r) (built_of r).setcount (built_of r).startcount

load_read_back : (j : Judge) (f : List ℕ) → install_read_back (install_shown (load_of j f)) ≡ load_of j f
unfolding load_of
load_read_back j f =
    let r = rule_of f in install_by_lem j (with_rule r) (load_number f) (built_of r).setcount (built_of r).startcount

open_read_back : (j : Judge) (n : ℕ) → call_read_back (call_shown (open_of j n)) ≡ open_of j n
unfolding open_of
open_read_back j n = taken_by_lem j (with_board j (empty_board n)) (first_of (open_conditions (lacks_rule j) n))

deliver_read_back_lem : (j : Judge) (p v : ℕ) (w : List ℕ) → deliver_read_back (deliver_shown (deliver_of j p v w)) ≡ deliver_of j p v w
unfolding deliver_of
deliver_read_back_lem j p v w =
    deliver_by_lem j (with_board j (filled_at j.board p v (runs_at j p w)))
    (first_of
    (deliver_conditions (lacks_board j) (places_of j.board) p w j.built.k (comes_late j.board p v)))
    (runs_at j p w).looked

withdraw_read_back : (j : Judge) (p : ℕ) → call_read_back (call_shown (withdraw_of j p)) ≡ withdraw_of j p
unfolding withdraw_of
withdraw_read_back j p =
    taken_by_lem j (with_board j (cleared_at j.board p))
    (first_of (withdraw_conditions (lacks_board j) (places_of j.board) p (is_empty j.board p)))

verdict_read_back_lem : (j : Judge) → verdict_read_back (verdict_shown (report_of j)) ≡ report_of j
verdict_read_back_lem j = verdict_by_lem (report_of j)

replay_read_back_lem : (so : Recorded) → replay_read_back (replay_shown (replay_of so)) ≡ replay_of so
replay_read_back_lem (calls h) = replay_by (report_in h)
replay_read_back_lem (malformed_at i) = refl

pub claims : Claims
claims = record {
  read_read_back_lem = read_read_back_lem;
  install_read_back_lem = install_read_back_lem;
  load_read_back = load_read_back;
  open_read_back = open_read_back;
  deliver_read_back_lem = deliver_read_back_lem;
  withdraw_read_back = withdraw_read_back;
  verdict_read_back_lem = verdict_read_back_lem;
  replay_read_back_lem = replay_read_back_lem;
}
