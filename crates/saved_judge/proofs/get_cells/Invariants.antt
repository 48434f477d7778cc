-- `get_cells` meets its contract. The loop's invariant: the cells passed are the numbers at their
-- places. Assumes nothing.
use Rattle.std.proofs.Common.{length}
use Rattle.saved_judge.proofs.Steps.{Got}
use Rattle.saved_judge.proofs.get_cells.Given as goal

abbrev pub invariant-loop-i : goal.invariant-loop-i
invariant-loop-i g l = let n = g.T.Number in Got n.value l.bytes l.at n.WIDTH (length l.initial.cells) l.cells l.i
