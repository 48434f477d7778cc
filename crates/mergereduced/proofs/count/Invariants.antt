-- `count` meets its contract. The loop's invariant: `out` counts the members below q. Assumes
-- nothing.
use mathlib.Core.Path.{◌≡◌}
use Rattle.masks.specs.Turns.{rank}
use Rattle.mergereduced.specs.mirror.Asked.{set_in}
use Rattle.mergereduced.proofs.count.Given as goal

abbrev pub invariant-loop-q : goal.invariant-loop-q
invariant-loop-q l = l.out ≡ rank (set_in l.set) l.q
