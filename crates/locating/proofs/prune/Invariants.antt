-- `prune` meets its contract: each cell below c is kept as it must be, and the others are empty.
-- Assumes nothing.
use Rattle.locating.proofs.Pruning.{Kept}
use Rattle.locating.proofs.prune.Given as goal

abbrev pub invariant-loop-c : goal.invariant-loop-c
invariant-loop-c l = Kept l.sets l.next l.live l.c l.out
