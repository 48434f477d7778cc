-- The ways through `run_line`, by what the line was parsed as. Assumes nothing.
use mathlib.Core.Path.{◌≡◌, sym, ap, ◌∙◌, subst}
use mathlib.Core.List.{List}
use mathlib.Core.Option.{some}
use Prim.Native.Nat.{ℕ, ◌-◌, ◌≤◌}
use lib.ListN.{length, take, drop}
use Rattle.fields.specs.Bytes.{parse_bytes}
use Rattle.calltext.proofs.Readings.{to_the_end}
use Rattle.trays.specs.declared.Tray.{Tray}
use Rattle.trays.specs.Calls.{opens, withdraws, asks_verdict}
use Rattle.traytext.specs.declared.Line.{Line}
use Rattle.traytext.specs.declared.Line.TheVariants.{Empty, Row, Column, Open, Deliver, Withdraw, Verdict, Malformed}
use Rattle.traytext.specs.Lines.{again, call, malformed, row_by, column_by, deliver_by, line_in, line_means, bytes_from, Parsed}
use Rattle.traylines.specs.Running.{LineOutcome, line_step}

module _ (w : List ℕ) (x : Line) (parsed : Parsed w x) where
  pub row_inside : x ≡ Row → 4 ≤ length w
  row_inside e = subst (λ (y : Line). bytes_from y ≤ length w) e parsed.inside

  pub column_inside : x ≡ Column → 7 ≤ length w
  column_inside e = subst (λ (y : Line). bytes_from y ≤ length w) e parsed.inside

  pub deliver_inside : (p from : ℕ) → x ≡ Deliver p from → from ≤ length w
  deliver_inside p from e = subst (λ (y : Line). bytes_from y ≤ length w) e parsed.inside

  module _ (t : Tray) (o : LineOutcome) where
    by : (y : Line) → x ≡ y → o ≡ line_step t (line_means w y) → o ≡ line_step t (line_in w)
    by y e l = l ∙ ap (line_step t) (sym (parsed.means ∙ ap (line_means w) e))

    pub line_empty : x ≡ Empty → o ≡ line_step t again → o ≡ line_step t (line_in w)
    line_empty e = by Empty e

    pub line_row : x ≡ Row → o ≡ line_step t (row_by (parse_bytes (take (length w - 4) (drop 4 w)))) → o ≡ line_step t (line_in w)
    line_row e l = by Row e (l ∙ ap (λ (v : List ℕ). line_step t (row_by (parse_bytes v))) (to_the_end w 4))

    pub line_column : x ≡ Column → o ≡ line_step t (column_by (parse_bytes (take (length w - 7) (drop 7 w)))) → o ≡ line_step t (line_in w)
    line_column e l = by Column e (l ∙ ap (λ (v : List ℕ). line_step t (column_by (parse_bytes v))) (to_the_end w 7))

    pub line_open : (width bands : ℕ) → x ≡ Open width bands → o ≡ line_step t (call (opens width bands)) → o ≡ line_step t (line_in w)
    line_open width bands e = by (Open width bands) e

    pub line_deliver : (p from : ℕ) → x ≡ Deliver p from
        → o ≡ line_step t (deliver_by (some p) (parse_bytes (take (length w - from) (drop from w)))) → o ≡ line_step t (line_in w)
    line_deliver p from e l = by (Deliver p from) e (l ∙ ap (λ (u : List ℕ). line_step t (deliver_by (some p) (parse_bytes u))) (to_the_end w from))

    pub line_withdraw : (p : ℕ) → x ≡ Withdraw p → o ≡ line_step t (call (withdraws p)) → o ≡ line_step t (line_in w)
    line_withdraw p e = by (Withdraw p) e

    pub line_verdict : x ≡ Verdict → o ≡ line_step t (call asks_verdict) → o ≡ line_step t (line_in w)
    line_verdict e = by Verdict e

    pub line_malformed : x ≡ Malformed → o ≡ line_step t malformed → o ≡ line_step t (line_in w)
    line_malformed e = by Malformed e
