-- `band_fault` meets its contract: the rows passed are accepted. Assumes nothing.
use mathlib.Core.Path.{◌≡◌}
use mathlib.Core.Option.{none}
use Prim.Native.Nat.{◌+◌, ◌*◌, ◌≤◌}
use lib.ListN.{length, drop}
use Rattle.trays.specs.Rows.{rows_of}
use Rattle.faults.specs.First.{first_found}
use Rattle.faults.specs.Faulting.{row_wrong}
use Rattle.faults.proofs.band_fault.Given as goal

abbrev pub invariant-loop-i : goal.invariant-loop-i
invariant-loop-i l =
    (l.at ≡ l.from + l.i * l.width) × (l.from + l.rows * l.width ≤ length l.cells)
    × (first_found (row_wrong l.rule l.band (rows_of l.width l.rows (drop l.from l.cells))) l.i ≡ none)
