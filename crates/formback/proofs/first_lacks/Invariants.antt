-- `first_lacks` meets its contract. The loop's invariant: no symbol passed is left out. Assumes nothing.
use mathlib.Core.Bool.{not}
use lib.ListN.{get_or}
use Rattle.masks.specs.Masks.{has}
use Rattle.formback.proofs.Turns.{Passed}
use Rattle.formback.proofs.first_lacks.Given as goal

abbrev pub invariant-loop-s : goal.invariant-loop-s
invariant-loop-s l = Passed (λ j. not (has (get_or l.kept 0 0) j)) l.k l.s
