-- `join_places` meets its contract: the set is C after the places passed. Assumes nothing.
use mathlib.Core.Path.{◌≡◌}
use Rattle.joins.specs.Joining.{join_up_to}
use Rattle.joins.proofs.join_places.Given as goal

abbrev pub invariant-loop-place : goal.invariant-loop-place
invariant-loop-place l = l.set ≡ join_up_to l.ends l.delegates l.n l.initials l.place
