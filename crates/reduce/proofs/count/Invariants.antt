-- `count` meets its contract. The loop's invariant: `out` counts the members below p. Assumes
-- nothing.
use mathlib.Core.Path.{◌≡◌}
use Rattle.masks.specs.Turns.{rank}
use Rattle.reduce.proofs.count.Given as goal

abbrev pub invariant-loop-p : goal.invariant-loop-p
invariant-loop-p l = l.out ≡ rank l.set l.p
