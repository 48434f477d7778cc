-- `successor` meets its contract. The loop goes through the bits from state 0 up: what is left of
-- the set is the set shifted by q, and `out` is the union over the members below q. It ends where
-- no bit is left, which is so at 32 at the latest. Assumes nothing.
use mathlib.Core.Path.{◌≡◌}
use Prim.Native.Nat.{◌-◌, ◌/◌, ◌^◌, ◌≤◌, ◌<◌}
use Rattle.masks.specs.Masks.{union}
use Rattle.automaton.specs.Rules.{target_mask}
use Rattle.automaton.proofs.successor.Given as goal

abbrev pub invariant-loop-rest : goal.invariant-loop-rest
invariant-loop-rest l =
    (l.symbol < 16) × (l.q ≤ 32) × (l.rest ≡ l.set / 2 ^ l.q) × (l.out ≡ union (λ p. target_mask l.targets p l.symbol) l.set l.q)

abbrev pub decreases-loop-rest : goal.decreases-loop-rest
decreases-loop-rest l = 32 - l.q
