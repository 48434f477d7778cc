-- `count_of` meets its contract: i is what was counted, and the rest is counted from where the run
-- stands. Assumes nothing.
use mathlib.Core.Path.{◌≡◌}
use Prim.Native.Nat.{◌+◌, ◌≤◌}
use lib.ListN.{drop}
use Rattle.lanes.specs.mirror.Offsets.{row_count}
use Rattle.blocks.proofs.count_of.Given as goal

abbrev pub invariant-loop-i : goal.invariant-loop-i
invariant-loop-i l = (l.row ≤ 8192) × (l.i + row_count l.t (drop l.i l.part) l.row ≡ row_count l.t l.part l.from)
