-- `rows_pass` meets its contract: the rows of the bands before p pass. Assumes nothing.
use mathlib.Core.Path.{◌≡◌}
use mathlib.Core.Bool.{true}
use Rattle.trays.specs.Rows.{rows_up_to, rows_pass}
use Rattle.trays.specs.Boards.{band_in}
use Rattle.trayverdict.proofs.rows_pass.Given as goal

abbrev pub invariant-loop-p : goal.invariant-loop-p
invariant-loop-p l = rows_pass l.rule (rows_up_to (band_in l.width l.rows l.cells) l.p) ≡ true
