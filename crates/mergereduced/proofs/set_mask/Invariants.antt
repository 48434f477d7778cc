-- `set_mask` meets its contract. The loop's invariant: `out` has the places below p. Assumes
-- nothing.
use mathlib.Core.Path.{◌≡◌}
use Rattle.merging.specs.Merged.{set_of}
use Rattle.mergereduced.specs.mirror.Asked.{places_in}
use Rattle.mergereduced.proofs.set_mask.Given as goal

abbrev pub invariant-loop-p : goal.invariant-loop-p
invariant-loop-p l = l.out ≡ places_in l.list l.p (set_of l.way l.n1 l.n2 l.a l.b)
