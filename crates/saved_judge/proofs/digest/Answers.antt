-- `digest` meets its contract: the bytes that are left go on from the digest so far. Assumes
-- nothing.
use Rattle.saved_judge.proofs.Sums.{summed_begin, summed_more, summed_done}
use Rattle.saved_judge.proofs.digest.Goals as goal

pub loop-byte-init : goal.loop-byte-init
loop-byte-init c = summed_begin _

pub loop-byte-preserved : goal.loop-byte-preserved
loop-byte-preserved c =
    let x = c.loop-byte in
    summed_more _ x.next x.byte-index x.invariant _ c.loop-byte-test.true c.with_byte-next.ensures

pub returns : goal.returns
returns c = let x = c.loop-byte in summed_done _ x.next x.byte-index x.invariant c.loop-byte-test.false
