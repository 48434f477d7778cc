-- `run_kept` meets its contract. Assumes nothing.
use Prim.Native.Nat.{◌<◌}
use Rattle.locating.specs.mirror.Pruning.{pruned}
use Rattle.locating.proofs.ByRun.{Ran}
use Rattle.locating.proofs.run_kept.Given as goal

abbrev pub invariant-loop-i : goal.invariant-loop-i
invariant-loop-i l = (l.set < 512) × Ran (pruned l.sets l.next l.live l.count) l.initial.set l.text l.i l.set
