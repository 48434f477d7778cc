-- `columns_pass` meets its contract: the columns before c pass. Assumes nothing.
use mathlib.Core.Path.{◌≡◌}
use mathlib.Core.Bool.{true}
use Rattle.trays.specs.Rows.{rows_up_to, columns_pass}
use Rattle.trays.specs.Boards.{band_in}
use Rattle.trayverdict.proofs.columns_pass.Given as goal

abbrev pub invariant-loop-c : goal.invariant-loop-c
invariant-loop-c l = columns_pass l.rule (rows_up_to (band_in l.width l.rows l.cells) l.bands) l.c ≡ true
