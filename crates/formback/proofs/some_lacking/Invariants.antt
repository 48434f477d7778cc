-- `some_lacking` meets its contract. The loop's invariant: no cell passed names such a set. Assumes nothing.
use lib.ListN.{get_or}
use Rattle.forms.specs.Back.{lacking}
use Rattle.formback.proofs.Turns.{Passed}
use Rattle.formback.proofs.some_lacking.Given as goal

abbrev pub invariant-loop-i : goal.invariant-loop-i
invariant-loop-i l = Passed (λ j. lacking l.sets (get_or l.cells j 0)) l.count l.i
