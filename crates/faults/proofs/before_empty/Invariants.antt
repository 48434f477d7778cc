-- `before_empty` meets its contract: the bands passed stand. Assumes nothing.
use mathlib.Core.Path.{◌≡◌}
use mathlib.Core.Option.{none}
use Prim.Native.Nat.{◌≤◌}
use lib.Dec.{eqb}
use lib.ListN.{get_or}
use Rattle.faults.specs.First.{first_found}
use Rattle.faults.specs.Faulting.{empty_at}
use Rattle.faults.proofs.before_empty.Given as goal

abbrev pub invariant-loop-p : goal.invariant-loop-p
invariant-loop-p l = (l.bands ≤ 8) × (first_found (empty_at (λ q. eqb (get_or l.filled q 0) 0)) l.p ≡ none)
