-- `put_little` meets its contract. The loop's invariant: what is left is to be written there.
-- Assumes nothing.
use Rattle.saved_judge.proofs.Steps.{Digits}
use Rattle.saved_judge.proofs.put_little.Given as goal

abbrev pub invariant-loop : goal.invariant-loop
invariant-loop l = Digits l.initial.out l.start l.width l.number l.out l.at l.counter l.rest
