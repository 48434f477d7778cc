-- `walk_column` meets its contract: the set after the bands passed, in each of which a live state
-- was left with every row. Assumes nothing.
use mathlib.Core.Path.{◌≡◌}
use mathlib.Core.Option.{none}
use Rattle.automaton.specs.Successor.{after}
use Rattle.trays.specs.Rows.{rows_up_to, column_of}
use Rattle.trays.specs.Boards.{band_in}
use Rattle.faults.specs.First.{first_found}
use Rattle.faults.specs.Faulting.{band_on}
use Rattle.faults.proofs.walk_column.Given as goal

abbrev pub invariant-loop-p : goal.invariant-loop-p
invariant-loop-p l =
    (l.reached ≡ after l.targets l.initials (column_of l.column (rows_up_to (band_in l.width l.rows l.cells) l.p)))
    × (first_found (band_on l.targets l.live l.column l.initials (band_in l.width l.rows l.cells)) l.p ≡ none)
