-- `walk_band` meets its contract: the set after the rows passed, each of which left a live state.
-- Assumes nothing.
use mathlib.Core.Path.{◌≡◌}
use mathlib.Core.Option.{none}
use Prim.Native.Nat.{◌+◌, ◌*◌, ◌≤◌, ◌<◌}
use lib.ListN.{length, take, drop}
use Rattle.automaton.specs.Successor.{after}
use Rattle.trays.specs.Rows.{rows_of, column_of}
use Rattle.faults.specs.First.{first_found}
use Rattle.faults.specs.Faulting.{row_stuck}
use Rattle.faults.proofs.walk_band.Given as goal

abbrev pub invariant-loop-i : goal.invariant-loop-i
invariant-loop-i l =
    (l.at ≡ l.from + l.i * l.width) × (l.from + l.rows * l.width ≤ length l.cells) × (l.column < l.width)
    × (l.reached ≡ after l.targets l.set (column_of l.column (take l.i (rows_of l.width l.rows (drop l.from l.cells)))))
    × (first_found (row_stuck l.targets l.live l.column l.set l.band (rows_of l.width l.rows (drop l.from l.cells))) l.i ≡ none)
