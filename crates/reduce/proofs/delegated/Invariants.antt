-- `delegated` meets its contract. The loop's invariant: `out` is the union over the members below
-- q. Assumes nothing.
use mathlib.Core.Path.{◌≡◌}
use Rattle.masks.specs.Masks.{single, union}
use Rattle.delegates.specs.Alike.{delegate_in, of_delegate}
use Rattle.reduce.proofs.delegated.Given as goal

abbrev pub invariant-loop-q : goal.invariant-loop-q
invariant-loop-q l = l.out ≡ union (λ p. of_delegate single (delegate_in l.delegates p)) l.set l.q
