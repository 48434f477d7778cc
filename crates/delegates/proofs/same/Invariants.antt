-- `same` meets its contract: its answer decides `Same`, as the test does. The loop's invariant: the
-- successors by each symbol passed are in one class. Assumes nothing.
use mathlib.Core.Path.{◌≡◌}
use Prim.Native.Nat.{ℕ, ◌<◌}
use Rattle.delegates.specs.mirror.Classes.{follow}
use Rattle.delegates.specs.mirror.Refinement.{class_of}
use Rattle.delegates.proofs.same.Given as goal

abbrev pub invariant-loop-a : goal.invariant-loop-a
invariant-loop-a l = (b : ℕ) → b < l.a → class_of l.class (follow l.next l.t.0 b) ≡ class_of l.class (follow l.next l.s.0 b)
