-- `put_states` meets its contract. The loop's invariant: the pairs and the sections of the first q
-- states are written. Assumes nothing.
use Rattle.rulewriter.proofs.States.{States}
use Rattle.rulewriter.proofs.put_states.Given as goal

abbrev pub invariant-loop-q : goal.invariant-loop-q
invariant-loop-q l = States l.n l.k l.targets l.initial.out l.out l.at l.q
