-- `set_band` meets its contract: the first i cells of the band are stored. Assumes nothing.
use Prim.Native.Nat.{◌<◌}
use Rattle.traybands.proofs.Cells.{Stored}
use Rattle.traybands.proofs.set_band.Given as goal

abbrev pub invariant-loop-i : goal.invariant-loop-i
invariant-loop-i l = (l.band < 8) × Stored l.initial.cells l.band l.bytes l.i l.cells
