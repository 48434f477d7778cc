-- What each call answers and what state it leaves, for any state whatever. A refusal leaves the
-- state as it was. On a state that no list of calls leaves, document 01 leaves the answer free, and
-- the next state where the call accepts; what stands here is what this code does. crates/histories
-- says what that is after a list of calls.
--
--   fresh              no rule and no board: zeros
--   with_rule r        the judge with the rule r and no board
--   install_of, load_of, open_of, deliver_of, withdraw_of  the outcomes of the calls that may change
--                      the state; that of a load by document 01's numbers
--   verdict_of         what the verdict says
--   report_of          what the call verdict reports
--   step_of j c         the outcome of the call c on the state j
use Rattle.std.specs.Prelude.{Bool, List, ℕ, eqb}
use Rattle.std.proofs.Math.Option.{Option, none, some}
use Rattle.base.specs.Conditions.{first_of}
use Rattle.marks.specs.Marks.{text_of}
use Rattle.automaton.specs.declared.Rule.{Rule}
use Rattle.ruleformat.specs.Reader.{rule_of}
use Rattle.build.specs.mirror.Building.{built_of, no_built}
use Rattle.chunks.specs.declared.Runs.{Runs}
use Rattle.chunks.specs.mirror.Walks.{run_mask, runs_of}
use Rattle.board.specs.declared.Board.{Board}
use Rattle.board.specs.Boards.{places_of, is_empty, comes_late, empty_board, filled_at, cleared_at, empty_places, summed_count, summed_bytes}
use Rattle.joins.specs.Joining.{says_yes}
use Rattle.calls.specs.declared.Judge.{Judge}
use Rattle.calls.specs.Replies.{Judgement, Reported, Reply, accepted, judged, refused, delivered, Outcome}
use Rattle.calls.specs.Calls.{Call, installs, loads, opens, delivers, withdraws, asks_verdict, install_number, load_number, with_sets, open_conditions, deliver_conditions, withdraw_conditions, verdict_by, report_by}

unfoldable pub fresh : Judge
fresh = record { built = no_built; board = empty_board 0 }

abbrev pub lacks_rule : Judge → Bool
lacks_rule j = eqb j.built.n 0

abbrev pub lacks_board : Judge → Bool
lacks_board j = eqb j.board.places 0

abbrev pub with_board : Judge → Board → Judge
with_board j b = record { built = j.built; board = b }

-- ---- outcomes
-- where no condition holds the call is accepted; a refusal leaves the state as it was
abbrev pub outcome_by : Option ℕ → Reply → Judge → Judge → Outcome
outcome_by none a j next = record { reply = a; state = next }
outcome_by (some number) a j next = record { reply = refused number; state = j }

-- ---- install
-- the rule is built, and no board is there
abbrev pub with_rule : Rule → Judge
with_rule r = record { built = built_of r; board = empty_board 0 }

unfoldable pub install_of : Judge → Rule → Outcome
install_of j r = outcome_by (install_number r) (with_sets r) j (with_rule r)

-- ---- load
unfoldable pub load_of : Judge → List ℕ → Outcome
load_of j f = outcome_by (load_number f) (with_sets (rule_of f)) j (with_rule (rule_of f))

-- ---- open
unfoldable pub open_of : Judge → ℕ → Outcome
open_of j n =
    outcome_by (first_of (open_conditions (lacks_rule j) n)) accepted j (with_board j (empty_board n))

-- ---- deliver
-- the runs of a chunk at a place: those of its text
abbrev pub runs_at : Judge → ℕ → List ℕ → Runs
runs_at j p w =
    runs_of j.built.sets j.built.next j.built.singles (run_mask j.built.delegates j.built.n j.built.initials p) (text_of w)

unfoldable pub deliver_of : Judge → ℕ → ℕ → List ℕ → Outcome
deliver_of j p v w =
    outcome_by
    (first_of
    (deliver_conditions (lacks_board j) (places_of j.board) p w j.built.k (comes_late j.board p v)))
    (delivered (runs_at j p w).looked)
    j
    (with_board j (filled_at j.board p v (runs_at j p w)))

-- ---- withdraw
unfoldable pub withdraw_of : Judge → ℕ → Outcome
withdraw_of j p =
    outcome_by (first_of (withdraw_conditions (lacks_board j) (places_of j.board) p (is_empty j.board p)))
    accepted
    j
    (with_board j (cleared_at j.board p))

-- ---- verdict
abbrev pub is_yes : Judge → Bool
is_yes j =
    says_yes j.board.ends j.built.delegates j.built.n j.built.initials j.built.finals (places_of j.board)

unfoldable pub verdict_of : Judge → Judgement
verdict_of j = verdict_by (lacks_board j) (empty_places j.board) (is_yes j) (summed_count j.board)

abbrev pub report_of : Judge → Reported
report_of j = report_by (verdict_of j) (summed_bytes j.board)

-- ---- any call
abbrev pub step_of : Judge → Call → Outcome
step_of j (installs r) = install_of j r
step_of j (loads f) = load_of j f
step_of j (opens n) = open_of j n
step_of j (delivers p v w) = deliver_of j p v w
step_of j (withdraws p) = withdraw_of j p
step_of j asks_verdict = record { reply = judged (report_of j); state = j }
