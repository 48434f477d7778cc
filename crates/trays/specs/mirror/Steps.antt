-- What each call of a tray answers and what state it leaves, for any state whatever. A refusal
-- leaves the state as it was.
--
--   fresh              no rules and no board: zeros
--   Outcome            the outcome of a call: its reply, and the state that it leaves
--   install_outcome, call_outcome  the outcome that the code's result stands for
--   install_answer r   what is answered to an installation of the rule r, in any state
--   with_row t r, with_column t r  the tray with r as that rule, the other rule as it was and no board
--   install_of t r next  the outcome of an installation of r, by the tray that it leaves if accepted
--   install_row_of, install_column_of, open_of, deliver_of, withdraw_of  the outcomes of the calls that may
--                                                                  change the state
--   is_yes t            every row and every column of the rows held is accepted
--   verdict_of t       what the verdict says
--   step_of t c         the outcome of the call c on the state t
use Rattle.std.specs.Prelude.{Bool, not, ◌||◌, List, ℕ, eqb}
use Rattle.std.proofs.Math.Option.{Option, none, some}
use Rattle.base.specs.Conditions.{first_of}
use Rattle.automaton.specs.declared.Rule.{Rule}
use Rattle.ruleformat.specs.Reader.{no_rule}
use Rattle.calls.specs.Calls.{install_number}
use Rattle.trays.specs.declared.TrayBoard.{TrayBoard}
use Rattle.trays.specs.declared.Tray.{Tray}
use Rattle.trays.specs.declared.InstallResult.{InstallResult}
use Rattle.trays.specs.declared.CallResult.{CallResult}
use Rattle.trays.specs.Rows.{passes}
use Rattle.trays.specs.Replies.{Judgement, Reply, accepted, judged, refused, reply_by, with_sets, install_means, call_means}
use Rattle.trays.specs.Calls.{Call, installs_row, installs_column, opens, delivers, withdraws, asks_verdict, open_conditions, deliver_conditions, withdraw_conditions, verdict_by}
use Rattle.trays.specs.Boards.{width_of, bands_of, is_empty, empty_board, filled_at, cleared_at, empty_bands, rows_held}

unfoldable pub fresh : Tray
fresh = record { row = no_rule; column = no_rule; board = empty_board 0 0 }

-- either rule is absent
abbrev pub lacks_rule : Tray → Bool
lacks_rule t = eqb t.row.n 0 || eqb t.column.n 0

abbrev pub lacks_board : Tray → Bool
lacks_board t = eqb t.board.bands 0

abbrev pub with_board : Tray → TrayBoard → Tray
with_board t b = record { row = t.row; column = t.column; board = b }

-- ---- outcomes
pub record Outcome : Type 0 where
  pub reply : Reply
  pub state : Tray

abbrev pub install_outcome : InstallResult → Outcome
install_outcome r = record { reply = install_means r.answer; state = r.tray }

abbrev pub call_outcome : CallResult → Outcome
call_outcome r = record { reply = call_means r.answer; state = r.tray }

-- where no condition holds the call is accepted; a refusal leaves the state as it was
abbrev pub outcome_by : Option ℕ → Reply → Tray → Tray → Outcome
outcome_by none a t next = record { reply = a; state = next }
outcome_by (some number) a t next = record { reply = refused number; state = t }

-- ---- the installations: either removes the board
abbrev pub with_row : Tray → Rule → Tray
with_row t r = record { row = r; column = t.column; board = empty_board 0 0 }

abbrev pub with_column : Tray → Rule → Tray
with_column t r = record { row = t.row; column = r; board = empty_board 0 0 }

unfoldable pub install_answer : Rule → Reply
install_answer r = reply_by (install_number r) (with_sets r)

-- where `next` is the tray with the rule in it
abbrev pub install_of : Tray → Rule → Tray → Outcome
install_of t r next = outcome_by (install_number r) (with_sets r) t next

unfoldable pub install_row_of : Tray → Rule → Outcome
install_row_of t r = install_of t r (with_row t r)

unfoldable pub install_column_of : Tray → Rule → Outcome
install_column_of t r = install_of t r (with_column t r)

-- ---- open: an earlier board is dropped
unfoldable pub open_of : Tray → ℕ → ℕ → Outcome
open_of t w n = outcome_by (first_of (open_conditions (lacks_rule t) w n)) accepted t (with_board t (empty_board w n))

-- ---- deliver and withdraw
unfoldable pub deliver_of : Tray → ℕ → List ℕ → Outcome
deliver_of t p b =
    outcome_by
    (first_of
    (deliver_conditions (lacks_board t) (bands_of t.board) (width_of t.board) t.row.k t.column.k (not (is_empty t.board p)) p b))
    accepted
    t
    (with_board t (filled_at t.board p b))

unfoldable pub withdraw_of : Tray → ℕ → Outcome
withdraw_of t p =
    outcome_by (first_of (withdraw_conditions (lacks_board t) (bands_of t.board) (is_empty t.board p) p)) accepted t
    (with_board t (cleared_at t.board p))

-- ---- verdict
abbrev pub is_yes : Tray → Bool
is_yes t = passes t.row t.column (width_of t.board) (rows_held t.board)

unfoldable pub verdict_of : Tray → Judgement
verdict_of t = verdict_by (lacks_board t) (empty_bands t.board) (is_yes t)

-- ---- any call
abbrev pub step_of : Tray → Call → Outcome
step_of t (installs_row r) = install_row_of t r
step_of t (installs_column r) = install_column_of t r
step_of t (opens w n) = open_of t w n
step_of t (delivers p b) = deliver_of t p b
step_of t (withdraws p) = withdraw_of t p
step_of t asks_verdict = record { reply = judged (verdict_of t); state = t }
