-- `put_cells` meets its contract. The loop's invariant: the numbers of the cells that are left are
-- to be written there. Assumes nothing.
use Rattle.saved_judge.proofs.Steps.{Cells}
use Rattle.saved_judge.proofs.put_cells.Given as goal

abbrev pub invariant-loop-cell : goal.invariant-loop-cell
invariant-loop-cell g l = let n = g.T.Number in Cells n.value l.initial.out l.start n.WIDTH l.cells l.out l.at l.cell-index
