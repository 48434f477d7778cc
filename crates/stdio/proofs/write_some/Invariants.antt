-- `write_some` ends with its tries, and a try that failed put nothing.
use Rattle.std.specs.Io.KnownBytes.{Keeps}
use Rattle.stdio.proofs.write_some.Given as goal

abbrev pub invariant-loop-tries : goal.invariant-loop-tries
invariant-loop-tries g l = Keeps (g.W.Write.contents l.fn.output) (g.W.Write.contents l.output)

abbrev pub decreases-loop-tries : goal.decreases-loop-tries
decreases-loop-tries g l = l.tries
