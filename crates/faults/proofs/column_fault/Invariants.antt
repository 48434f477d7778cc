-- `column_fault` meets its contract: none of the columns passed is lost, and the first of them that
-- is not accepted is known. Assumes nothing.
use mathlib.Core.Path.{◌≡◌}
use mathlib.Core.Option.{none}
use Rattle.live.specs.Live.{live_of}
use Rattle.trays.specs.Boards.{band_in}
use Rattle.faults.specs.First.{first_found}
use Rattle.faults.specs.Faulting.{found_means, column_short}
use Rattle.faults.proofs.Ways.{stuck_at}
use Rattle.faults.proofs.column_fault.Given as goal

abbrev pub invariant-loop-c : goal.invariant-loop-c
invariant-loop-c l =
    (l.live ≡ live_of l.rule) × (first_found (stuck_at l.rule (band_in l.width l.rows l.cells) l.width l.bands) l.c ≡ none)
    × (found_means l.short ≡ first_found (column_short l.rule (band_in l.width l.rows l.cells) l.bands) l.c)
