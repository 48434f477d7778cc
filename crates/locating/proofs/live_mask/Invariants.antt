-- `live_mask` meets its contract. The loop's invariant: the set has the live states below q. Assumes
-- nothing.
use mathlib.Core.Path.{◌≡◌}
use Rattle.locating.specs.mirror.Pruning.{live_set}
use Rattle.locating.proofs.live_mask.Given as goal

abbrev pub invariant-loop-q : goal.invariant-loop-q
invariant-loop-q l = l.live ≡ live_set l.delegates l.q
