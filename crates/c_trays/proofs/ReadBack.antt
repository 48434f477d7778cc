-- The numbers that C is given, read back: by cases of the calls' outcomes. Assumes nothing.
use mathlib.Core.Path.{◌≡◌, refl}
use mathlib.Core.Bool.{not}
use mathlib.Core.List.{List}
use mathlib.Core.Option.{Option, none, some}
use Prim.Native.Nat.{ℕ}
use Rattle.base.specs.Conditions.{first_of}
use Rattle.flags.proofs.Flags as flags
use Rattle.automaton.specs.declared.Rule.{Rule}
use Rattle.build.specs.mirror.Building.{built_of}
use Rattle.calls.specs.Calls.{install_number}
use Rattle.trays.specs.declared.Tray.{Tray}
use Rattle.trays.specs.Replies.{Judgement, waiting, says_yes, says_no, refused_with, accepted, installed, refusal_of}
use Rattle.trays.specs.Calls.{open_conditions, deliver_conditions, withdraw_conditions}
use Rattle.trays.specs.Boards.{width_of, bands_of, is_empty, empty_board, filled_at, cleared_at}
use Rattle.trays.specs.mirror.Steps.{lacks_rule, lacks_board, with_board, outcome_by, with_row, with_column, install_row_of, install_column_of, open_of, deliver_of, withdraw_of}
use Rattle.c_trays.specs.Numbers.{install_shown, call_shown, verdict_shown, install_read_back, call_read_back, verdict_read_back}
use Rattle.c_trays.specs.Claims.{Claims}

module _ (t next : Tray) where
  install_by_lem : (number : Option ℕ) (sets m : ℕ)
      → install_read_back (install_shown (outcome_by number (installed sets m) t next)) ≡ outcome_by number (installed sets m) t next
  install_by_lem none sets m = refl
  install_by_lem (some x) sets m = refl

  call_by : (number : Option ℕ) → call_read_back (call_shown (outcome_by number accepted t next)) ≡ outcome_by number accepted t next
  call_by none = refl
  call_by (some x) = refl

module _ (t : Tray) where
  row_back : (r : Rule) → install_read_back (install_shown (install_row_of t r)) ≡ install_row_of t r
  unfolding install_row_of
  row_back r = install_by_lem t (with_row t r) (install_number r) (built_of r).setcount (built_of r).startcount

  column_back : (r : Rule) → install_read_back (install_shown (install_column_of t r)) ≡ install_column_of t r
  unfolding install_column_of
  column_back r = install_by_lem t (with_column t r) (install_number r) (built_of r).setcount (built_of r).startcount

  open_back : (w n : ℕ) → call_read_back (call_shown (open_of t w n)) ≡ open_of t w n
  unfolding open_of
  open_back w n = call_by t (with_board t (empty_board w n)) (first_of (open_conditions (lacks_rule t) w n))

  deliver_back : (p : ℕ) (b : List ℕ) → call_read_back (call_shown (deliver_of t p b)) ≡ deliver_of t p b
  unfolding deliver_of
  deliver_back p b =
      call_by t (with_board t (filled_at t.board p b))
      (first_of
      (deliver_conditions (lacks_board t) (bands_of t.board) (width_of t.board) t.row.k t.column.k (not (is_empty t.board p)) p b))

  withdraw_back : (p : ℕ) → call_read_back (call_shown (withdraw_of t p)) ≡ withdraw_of t p
  unfolding withdraw_of
  withdraw_back p =
      call_by t (with_board t (cleared_at t.board p))
      (first_of (withdraw_conditions (lacks_board t) (bands_of t.board) (is_empty t.board p) p))

verdict_back : (v : Judgement) → verdict_read_back (verdict_shown v) ≡ v
verdict_back (waiting empty) = refl
verdict_back says_yes = refl
verdict_back says_no = refl
verdict_back (refused_with number) = refl

pub claims : Claims
claims = record {
  install_flags = λ o. (flags.claims).flags (refusal_of o.reply);
  call_flags = λ o. (flags.claims).flags (refusal_of o.reply);
  installed_shown = λ s m t. refl;
  install_refused = λ x t. refl;
  call_taken = λ t. refl;
  call_refused = λ x t. refl;
  verdict_refused = λ x. refl;
  waits = λ empty. refl;
  says_yes_lem = refl;
  says_no_lem = refl;
  row_read_back = row_back;
  column_read_back = column_back;
  open_read_back = open_back;
  deliver_read_back_lem = deliver_back;
  withdraw_read_back = withdraw_back;
  verdict_read_back_lem = verdict_back;
}
