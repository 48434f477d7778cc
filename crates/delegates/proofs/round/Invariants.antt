-- `round` meets its contract. The loop's invariant: each set passed has its new class, and
-- `changed` tells whether that of one of them is another than its old one. Assumes nothing.
use mathlib.Core.Path.{◌≡◌}
use mathlib.Core.Bool.{not}
use Prim.Native.Nat.{ℕ, ◌<◌}
use lib.Dec.{eqb}
use lib.ListN.{length}
use Rattle.delegates.specs.mirror.Classes.{every}
use Rattle.delegates.specs.mirror.Refinement.{class_of, least_of}
use Rattle.delegates.proofs.round.Given as goal

abbrev pub invariant-loop-s : goal.invariant-loop-s
invariant-loop-s l =
    (length l.new ≡ 513) × ((b : ℕ) → b < l.s → class_of l.new b ≡ least_of l.sets l.next l.finals l.k l.class b)
    × (l.changed ≡ not (every l.s (λ b. eqb (class_of l.class b) (least_of l.sets l.next l.finals l.k l.class b))))
