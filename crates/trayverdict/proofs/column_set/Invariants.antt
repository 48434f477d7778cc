-- `column_set` meets its contract: the set after the bands before p. Assumes nothing.
use mathlib.Core.Path.{◌≡◌}
use Rattle.automaton.specs.Successor.{after}
use Rattle.trays.specs.Rows.{rows_up_to, column_of}
use Rattle.trays.specs.Boards.{band_in}
use Rattle.trayverdict.proofs.column_set.Given as goal

abbrev pub invariant-loop-p : goal.invariant-loop-p
invariant-loop-p l =
    l.reached ≡ after l.targets l.initials (column_of l.column (rows_up_to (band_in l.width l.rows l.cells) l.p))
