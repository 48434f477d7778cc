-- `position` meets its contract: what is passed and what is left to pass make the whole. Assumes
-- nothing.
use mathlib.Core.Path.{◌≡◌}
use Prim.Native.Nat.{◌+◌}
use lib.ListN.{drop}
use Rattle.locating.specs.Positions.{position_of}
use Rattle.locating.proofs.position.Given as goal

abbrev pub invariant-loop-i : goal.invariant-loop-i
invariant-loop-i l = l.i + position_of (drop l.i l.chunk) l.left ≡ position_of l.chunk l.bytes
