-- `tally` meets its contract. The lanes from `used` on are empty, and count nothing. Assumes nothing.
use mathlib.Core.Path.{◌≡◌}
use Prim.Native.Nat.{ℕ, ◌≤◌, ◌<◌}
use lib.ListN.{length, get_or}
use Rattle.lanes.specs.mirror.Offsets.{row_count}
use Rattle.blocks.proofs.tally.Given as goal

abbrev pub invariant-loop-k : goal.invariant-loop-k
invariant-loop-k l =
    (length l.counts ≡ 40)
    × ((b : ℕ) → b < l.k → get_or l.counts b 0 ≡ row_count l.t l.part (get_or l.from b 0))
    × ((b : ℕ) → l.k ≤ b → get_or l.counts b 0 ≡ 0)
