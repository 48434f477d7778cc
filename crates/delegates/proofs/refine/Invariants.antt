-- `refine` meets its contract. The loop's invariant: the classes are those by the texts shorter
-- than some f. The measure is how many of the 513 sets are not the lowest of their class: a round
-- that changes a class takes one. Assumes nothing.
use mathlib.Core.Path.{◌≡◌}
use Prim.Native.Nat.{ℕ, ◌-◌}
use lib.ListN.{length}
use Rattle.delegates.specs.mirror.Refinement.{class_of}
use Rattle.delegates.proofs.Kept.{kept}
use Rattle.delegates.proofs.Classes.{ClassesTo}
use Rattle.delegates.proofs.refine.Given as goal

abbrev pub invariant-loop-class : goal.invariant-loop-class
invariant-loop-class l = (length l.class ≡ 513) × ((f : ℕ) × ClassesTo l.sets l.next l.finals l.k f (class_of l.class))

abbrev pub decreases-loop-class : goal.decreases-loop-class
decreases-loop-class l = 513 - kept (class_of l.class) 513
