-- `join_place` meets its contract: the union over the members below q. Assumes nothing.
use mathlib.Core.Path.{◌≡◌}
use Prim.Native.Nat.{◌-◌, ◌≤◌}
use Rattle.masks.specs.Masks.{union}
use Rattle.joins.proofs.Places.{added}
use Rattle.joins.proofs.join_place.Given as goal

abbrev pub invariant-loop-q : goal.invariant-loop-q
invariant-loop-q l = (l.q ≤ l.n) × (l.joined ≡ union (added l.ends l.delegates l.place) l.set l.q)

abbrev pub decreases-loop-q : goal.decreases-loop-q
decreases-loop-q l = l.n - l.q
