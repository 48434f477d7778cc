-- `find_by_run` meets its contract: the runs of the states below q are over. Assumes nothing.
use Rattle.locating.specs.mirror.Pruning.{pruned}
use Rattle.locating.proofs.ByRun.{Over}
use Rattle.locating.proofs.find_by_run.Given as goal

abbrev pub invariant-loop-q : goal.invariant-loop-q
invariant-loop-q l =
    Over l.sets (pruned l.sets l.next l.live l.count) l.singles l.starts l.text l.q l.looked
