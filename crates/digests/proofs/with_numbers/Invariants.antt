-- `with_numbers` meets its contract: the digest has the numbers of the cells passed behind it.
-- Assumes nothing.
use Rattle.digests.proofs.Laws.{Passed}
use Rattle.digests.proofs.with_numbers.Given as goal

abbrev pub invariant-loop-cell : goal.invariant-loop-cell
invariant-loop-cell g l = Passed g.T.Into.converts l.digest l.cells l.next l.cell-index
