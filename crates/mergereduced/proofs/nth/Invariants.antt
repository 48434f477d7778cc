-- `nth` meets its contract. Assumes nothing.
use mathlib.Core.Path.{◌≡◌}
use mathlib.Core.Bool.{◌&&◌}
use Prim.Native.Nat.{◌-◌}
use lib.Dec.{eqb}
use Rattle.masks.specs.Masks.{has}
use Rattle.masks.specs.Turns.{rank}
use Rattle.delegates.specs.mirror.Classes.{first_from}
use Rattle.mergereduced.specs.mirror.Asked.{set_in}
use Rattle.mergereduced.proofs.nth.Given as goal

abbrev pub invariant-loop-q : goal.invariant-loop-q
invariant-loop-q l =
    (l.below ≡ rank (set_in l.set) l.q)
    × (first_from (λ x. has (set_in l.set) x && eqb (rank (set_in l.set) x) l.p) 0 l.n ≡ first_from (λ x. has (set_in l.set) x && eqb (rank (set_in l.set) x) l.p) l.q (l.n - l.q))
