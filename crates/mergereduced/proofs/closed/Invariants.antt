-- `closed` meets its contract. The loop keeps what proofs/Closure.antt says of the set and of those
-- whose links are added, which grow by one each time round. Assumes nothing.
use mathlib.Core.Path.{◌≡◌}
use Prim.Native.Nat.{◌-◌}
use lib.ListN.{length, set}
use Rattle.masks.specs.Turns.{rank}
use Rattle.delegates.specs.mirror.Classes.{first_from}
use Rattle.merging.specs.Merged.{states_of}
use Rattle.mergereduced.specs.mirror.Asked.{set_in, link_in, link_by, fresh_in}
use Rattle.mergereduced.proofs.Closure.{Kept}
use Rattle.mergereduced.proofs.closed.Given as goal

abbrev pub invariant-loop-q : goal.invariant-loop-q
invariant-loop-q l =
    (l.n ≡ states_of l.way l.n1 l.n2) × (length l.done ≡ 1024) × (l.q ≡ first_from (fresh_in (set_in l.set) (set_in l.done)) 0 l.n)
    × Kept (link_by l.forth (link_in l.way l.n1 l.n2 l.m1 l.m2)) (states_of l.way l.n1 l.n2) (set_in l.initial.set) (set_in l.set) (set_in l.done)

abbrev pub decreases-loop-q : goal.decreases-loop-q
decreases-loop-q l = l.n - rank (set_in l.done) l.n
