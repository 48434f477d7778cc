-- `put_line` meets its contract. Assumes nothing.
use Rattle.answers.proofs.Lines.{SoFar}
use Rattle.answers.proofs.put_line.Given as goal

abbrev pub invariant-loop-number : goal.invariant-loop-number
invariant-loop-number l = SoFar l.initial.out l.initial.end l.numbers l.number-index l.out l.end
