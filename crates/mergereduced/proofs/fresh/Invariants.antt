-- `fresh` meets its contract: no number passed is in the set and not done. Assumes nothing.
use mathlib.Core.Path.{◌≡◌}
use Prim.Native.Nat.{◌-◌}
use Rattle.delegates.specs.mirror.Classes.{first_from}
use Rattle.mergereduced.specs.mirror.Asked.{set_in, fresh_in}
use Rattle.mergereduced.proofs.fresh.Given as goal

abbrev pub invariant-loop-q : goal.invariant-loop-q
invariant-loop-q l =
    first_from (fresh_in (set_in l.set) (set_in l.done)) 0 l.n ≡ first_from (fresh_in (set_in l.set) (set_in l.done)) l.q (l.n - l.q)
