-- `lowest` meets its contract. The loop's invariant: p is at most q, and the search from p on
-- finds what the whole search does. Assumes nothing.
use mathlib.Core.Path.{◌≡◌}
use Prim.Native.Nat.{◌-◌}
use lib.Dec.{eqb}
use Rattle.delegates.specs.mirror.Classes.{first_from}
use Rattle.delegates.specs.mirror.Refinement.{class_of, first_in_class}
use Rattle.delegates.proofs.lowest.Given as goal

abbrev pub invariant-loop-p : goal.invariant-loop-p
invariant-loop-p l =
    first_in_class l.own l.q.0 ≡ first_from (λ u. eqb (class_of l.own u) (class_of l.own l.q.0)) l.p (l.q.0 - l.p)
