-- `walk` meets its contract. The first loop's invariant: what is reached is the set after the bytes
-- passed, each set before has a live state, and the cache is right. The second's: what is reached is
-- the set after the bytes passed. Assumes nothing.
use Rattle.std.proofs.Common.{◌≡◌, ◌-◌, ◌<◌, ◌≤◌, length, take}
use Rattle.follow.specs.Following.{set_after}
use Rattle.follow.specs.mirror.Cache.{Cached}
use Rattle.follow.proofs.Steps.{Going}
use Rattle.follow.proofs.walk.Given as goal

abbrev pub invariant-loop-from : goal.invariant-loop-from
invariant-loop-from l =
    Going l.targets l.live l.set l.chunk l.before l.here.set l.i × Cached l.targets l.from l.to l.rows × (l.here.row < 61)

abbrev pub decreases-loop-from : goal.decreases-loop-from
decreases-loop-from l = length l.chunk - l.i

abbrev pub invariant-loop-j : goal.invariant-loop-j
invariant-loop-j l =
    (l.j ≤ length l.chunk) × (l.here.set ≡ set_after l.targets l.set (take l.j l.chunk)) × Cached l.targets l.from l.to l.rows × (l.here.row < 61)
