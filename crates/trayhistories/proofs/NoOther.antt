-- A call is refused with none but its own numbers, as specs/Conditions.antt says. Assumes nothing.
use mathlib.Core.Path.{◌≡◌, refl, sym, ◌∙◌}
use mathlib.Core.Bool.{Bool, true, false, cond}
use mathlib.Core.List.Memᴰ.{head as here}
use mathlib.Core.List.{List, ◌++◌}
use mathlib.Core.Option.{some}
use Prim.Native.Nat.{ℕ}
use lib.Dec.{eqb}
use Rattle.base.specs.Options.{is_none, is_some}
use Rattle.base.proofs.Options.{none-some}
use Rattle.rulecheck.specs.Checking.{rule_conditions}
use Rattle.calls.specs.Calls.{install_number, many_sets}
use Rattle.histories.proofs.NoOther.{one_of}
use Rattle.trays.specs.Replies.{waiting, says_yes, says_no, refused_with, refusal_in}
use Rattle.trays.specs.Calls.{Call, installs_row, installs_column, opens, delivers, withdraws, asks_verdict, open_conditions, deliver_conditions, withdraw_conditions}
use Rattle.trayhistories.specs.History.{row_in, column_in, lacks_rule_in, board_there, width_in, bands_in, standing, empties_in, yes_in}
use Rattle.trayhistories.specs.Conditions.{NoOtherNumber}
use Rattle.trayhistories.proofs.Last.{row_is, column-is, open_is, deliver_is, withdraw_is}

-- `full`: no band is empty
verdict_number : (lacks full all : Bool) (empty x : ℕ)
    → refusal_in (cond lacks (refused_with 21) (cond full (cond all says_yes says_no) (waiting empty))) ≡ some x → x ≡ 21
verdict_number true full all empty x e = cc
verdict_number false true true empty x e = none-some refl e
verdict_number false true false empty x e = none-some refl e
verdict_number false false all empty x e = none-some refl e

pub no_other_number : (h : List Call) → NoOtherNumber h
unfolding install_number
no_other_number h (installs_row r) x e = one_of (rule_conditions r ++ many_sets r) x (sym (row_is h r) ∙ e)
no_other_number h (installs_column r) x e = one_of (rule_conditions r ++ many_sets r) x (sym (column-is h r) ∙ e)
no_other_number h (opens w n) x e = one_of (open_conditions (lacks_rule_in h) w n) x (sym (open_is h w n) ∙ e)
no_other_number h (delivers p b) x e =
    one_of (deliver_conditions (is_none (board_there h)) (bands_in h) (width_in h) (row_in h).k (column_in h).k (is_some (standing h p)) p b) x
    (sym (deliver_is h p b) ∙ e)
no_other_number h (withdraws p) x e =
    one_of (withdraw_conditions (is_none (board_there h)) (bands_in h) (is_none (standing h p)) p) x (sym (withdraw_is h p) ∙ e)
no_other_number h asks_verdict x e = here (verdict_number (is_none (board_there h)) (eqb (empties_in h) 0) (yes_in h) (empties_in h) x e)
