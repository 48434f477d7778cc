-- `row_fault` meets its contract: the rows of the bands passed are accepted. Assumes nothing.
use mathlib.Core.Path.{◌≡◌}
use mathlib.Core.Option.{none}
use Rattle.trays.specs.Boards.{band_in}
use Rattle.faults.specs.First.{first_found}
use Rattle.faults.specs.Faulting.{band_wrong}
use Rattle.faults.proofs.row_fault.Given as goal

abbrev pub invariant-loop-p : goal.invariant-loop-p
invariant-loop-p l = first_found (λ b. band_wrong l.rule b (band_in l.width l.rows l.cells b)) l.p ≡ none
