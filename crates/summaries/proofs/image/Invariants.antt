-- `image` meets its contract. The loop goes through the bits from state 0 up, as in the successor
-- of a set. Assumes nothing.
use mathlib.Core.Path.{◌≡◌}
use Prim.Native.Nat.{◌-◌, ◌/◌, ◌^◌, ◌≤◌}
use lib.ListN.{get_or}
use Rattle.masks.specs.Masks.{union}
use Rattle.summaries.proofs.image.Given as goal

abbrev pub invariant-loop-rest : goal.invariant-loop-rest
invariant-loop-rest l = (l.q ≤ 32) × (l.rest ≡ l.set / 2 ^ l.q) × (l.out ≡ union (λ p. get_or l.leads p 0) l.set l.q)

abbrev pub decreases-loop-rest : goal.decreases-loop-rest
decreases-loop-rest l = 32 - l.q
