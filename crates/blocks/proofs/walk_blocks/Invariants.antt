-- `walk_blocks` meets its contract: after i bytes the runs stand where these lead. Assumes nothing.
use mathlib.Core.Path.{◌≡◌}
use Prim.Native.Nat.{◌-◌, ◌≤◌}
use lib.ListN.{length, take}
use Rattle.blocks.specs.mirror.Blocks.{walked_of}
use Rattle.blocks.proofs.walk_blocks.Given as goal

abbrev pub invariant-loop-i : goal.invariant-loop-i
invariant-loop-i l = (l.i ≤ length l.text) × (l.walked ≡ walked_of l.t (take l.i l.text) l.initial.walked.rows)

abbrev pub decreases-loop-i : goal.decreases-loop-i
decreases-loop-i l = length l.text - l.i
