-- `targets_of` meets its contract. The loop's invariant: `out` is the union over the members below
-- q. Assumes nothing.
use mathlib.Core.Path.{◌≡◌}
use Rattle.masks.specs.Masks.{union}
use Rattle.reducing.specs.Reduced.{row_of}
use Rattle.reduce.proofs.targets_of.Given as goal

abbrev pub invariant-loop-q : goal.invariant-loop-q
invariant-loop-q l = l.out ≡ union (λ x. row_of l.targets l.delegates l.kept l.p l.s x) l.kept l.q
