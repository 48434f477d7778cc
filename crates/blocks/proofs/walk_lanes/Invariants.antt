-- `walk_lanes` meets its contract. The lanes before `from` have walked, and `looked` is the greatest
-- number of bytes that one of them looked up; the others stand where they stood. Assumes nothing.
use Prim.Native.Nat.{◌-◌}
use Rattle.blocks.proofs.Eights.{Walking}
use Rattle.blocks.proofs.walk_lanes.Given as goal

abbrev pub invariant-loop-from : goal.invariant-loop-from
invariant-loop-from l = Walking l.t l.part l.initial.lane l.lane l.looked l.from

abbrev pub decreases-loop-from : goal.decreases-loop-from
decreases-loop-from l = 40 - l.from
