-- `lowest` meets its contract. The loop's invariant: p is at most q, and the search from p on finds
-- what the whole search does. Assumes nothing.
use mathlib.Core.Path.{◌≡◌}
use mathlib.Core.Bool.{◌&&◌}
use Prim.Native.Nat.{◌-◌}
use lib.Dec.{eqb}
use lib.ListN.{get_or}
use Rattle.masks.specs.Masks.{has}
use Rattle.delegates.specs.mirror.Classes.{first_from}
use Rattle.reduce.proofs.lowest.Given as goal

abbrev pub invariant-loop-p : goal.invariant-loop-p
invariant-loop-p l =
    first_from (λ u. has l.reached u && eqb (get_or l.delegates u 0) l.d) 0 l.q.0
    ≡ first_from (λ u. has l.reached u && eqb (get_or l.delegates u 0) l.d) l.p (l.q.0 - l.p)
