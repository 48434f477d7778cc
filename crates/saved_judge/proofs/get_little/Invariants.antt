-- `get_little` meets its contract. The loop's invariant: the number is what the bytes passed say.
-- Assumes nothing.
use Rattle.saved_judge.proofs.Steps.{Read}
use Rattle.saved_judge.proofs.get_little.Given as goal

abbrev pub invariant-loop-i : goal.invariant-loop-i
invariant-loop-i l = Read l.bytes l.at l.width l.number l.i
