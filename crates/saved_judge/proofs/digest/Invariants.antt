-- `digest` meets its contract: the bytes that are left go on from the digest so far. Assumes
-- nothing.
use Rattle.saved_judge.proofs.Sums.{Summed}
use Rattle.saved_judge.proofs.digest.Given as goal

abbrev pub invariant-loop-byte : goal.invariant-loop-byte
invariant-loop-byte l = Summed l.byte-items l.next l.byte-index
