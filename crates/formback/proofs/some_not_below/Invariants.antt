-- `some_not_below` meets its contract. The loop's invariant: no set passed has such a failure set. Assumes nothing.
use Rattle.forms.specs.Back.{not_below}
use Rattle.formback.proofs.Turns.{Passed}
use Rattle.formback.proofs.some_not_below.Given as goal

abbrev pub invariant-loop-t : goal.invariant-loop-t
invariant-loop-t l = Passed (not_below l.failure) l.sets l.t
