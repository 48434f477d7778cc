-- A refusal leaves the tray as it was, on any state whatever. Assumes nothing.
use mathlib.Core.Path.{◌≡◌, refl}
use mathlib.Core.Bool.{not}
use mathlib.Core.Option.{Option, none, some}
use Prim.Native.Nat.{ℕ}
use Rattle.base.proofs.Options.{none-some}
use Rattle.base.specs.Conditions.{first_of}
use Rattle.calls.specs.Calls.{install_number}
use Rattle.trays.specs.declared.Tray.{Tray}
use Rattle.trays.specs.Replies.{Reply, accepted, refusal_of, with_sets}
use Rattle.trays.specs.Calls.{installs_row, installs_column, opens, delivers, withdraws, asks_verdict, open_conditions, deliver_conditions, withdraw_conditions}
use Rattle.trays.specs.Boards.{width_of, bands_of, is_empty, empty_board, filled_at, cleared_at}
use Rattle.trays.specs.mirror.Steps.{lacks_rule, lacks_board, with_board, outcome_by, with_row, with_column, install_row_of, install_column_of, open_of, deliver_of, withdraw_of}
use Rattle.trays.specs.Claims.{Unchanged}

by_number : (number : Option ℕ) (a : Reply) (t next : Tray) → refusal_of a ≡ none
    → (x : ℕ) → refusal_of (outcome_by number a t next).reply ≡ some x → (outcome_by number a t next).state ≡ t
by_number none a t next taken x e = none-some taken e
by_number (some m) a t next taken x e = refl

pub unchanged : Unchanged
unfolding install_row_of install_column_of open_of deliver_of withdraw_of
unchanged t (installs_row r) = by_number (install_number r) (with_sets r) t (with_row t r) refl
unchanged t (installs_column r) = by_number (install_number r) (with_sets r) t (with_column t r) refl
unchanged t (opens w n) = by_number (first_of (open_conditions (lacks_rule t) w n)) accepted t (with_board t (empty_board w n)) refl
unchanged t (delivers p b) =
    by_number
    (first_of
    (deliver_conditions (lacks_board t) (bands_of t.board) (width_of t.board) t.row.k t.column.k (not (is_empty t.board p)) p b))
    accepted
    t
    (with_board t (filled_at t.board p b))
    refl
unchanged t (withdraws p) =
    by_number (first_of (withdraw_conditions (lacks_board t) (bands_of t.board) (is_empty t.board p) p)) accepted t
    (with_board t (cleared_at t.board p))
    refl
unchanged t asks_verdict = λ x e. refl
