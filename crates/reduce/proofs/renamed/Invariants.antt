-- `renamed` meets its contract. The loop's invariant: `out` has the new numbers of the members
-- below q. Assumes nothing.
use mathlib.Core.Path.{◌≡◌}
use Rattle.masks.specs.Masks.{single, union}
use Rattle.masks.specs.Turns.{rank}
use Rattle.reduce.proofs.renamed.Given as goal

abbrev pub invariant-loop-q : goal.invariant-loop-q
invariant-loop-q l = l.out ≡ union (λ p. single (rank l.kept p)) l.both l.q
