-- `column_after` meets its contract: what is reached after the rows that are left is what all rows
-- reach. Assumes nothing.
use mathlib.Core.Path.{◌≡◌}
use Prim.Native.Nat.{◌+◌, ◌-◌, ◌*◌, ◌≤◌, ◌<◌}
use lib.ListN.{length, drop}
use Rattle.automaton.specs.Successor.{after}
use Rattle.trays.specs.Rows.{rows_of, column_of}
use Rattle.trayverdict.proofs.column_after.Given as goal

abbrev pub invariant-loop : goal.invariant-loop
invariant-loop l =
    (l.at + (l.rows - l.counter) * l.width ≤ length l.cells) × (l.column < l.width)
    × (after l.targets l.set (column_of l.column (rows_of l.width l.rows (drop l.from l.cells))) ≡ after l.targets l.reached (column_of l.column (rows_of l.width (l.rows - l.counter) (drop l.at l.cells))))
