-- `read_block` ends with its tries, and a try that failed took nothing.
use Rattle.std.specs.Io.KnownBytes.{Keeps}
use Rattle.stdio.proofs.read_block.Given as goal

abbrev pub invariant-loop-tries : goal.invariant-loop-tries
invariant-loop-tries g l = Keeps (g.I.Read.remaining l.fn.input) (g.I.Read.remaining l.input)

abbrev pub decreases-loop-tries : goal.decreases-loop-tries
decreases-loop-tries g l = l.tries
