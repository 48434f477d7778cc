-- `living` meets its contract. The lanes passed are empty. Assumes nothing.
use Prim.Native.Nat.{ℕ, ◌≤◌, ◌<◌}
use lib.ListN.{get_or}
use Rattle.lanes.proofs.living.Given as goal

abbrev pub invariant-loop-k : goal.invariant-loop-k
invariant-loop-k l = (b : ℕ) → b < l.k → 1 ≤ b → 8192 ≤ get_or l.lane b 0
