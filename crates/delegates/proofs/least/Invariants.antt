-- `least` meets its contract. The loop's invariant: the search from t on finds what the whole
-- search does. Assumes nothing.
use mathlib.Core.Path.{◌≡◌}
use Prim.Native.Nat.{◌-◌}
use Rattle.delegates.specs.mirror.Classes.{first_from}
use Rattle.delegates.specs.mirror.Refinement.{same_in, least_of}
use Rattle.delegates.proofs.least.Given as goal

abbrev pub invariant-loop-t : goal.invariant-loop-t
invariant-loop-t l =
    least_of l.sets l.next l.finals l.k l.class l.s.0 ≡ first_from (λ u. same_in l.sets l.next l.finals l.k l.class u l.s.0) l.t (l.s.0 - l.t)

abbrev pub decreases-loop-t : goal.decreases-loop-t
decreases-loop-t l = l.s.0 - l.t
