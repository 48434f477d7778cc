-- `with_numbers` meets its contract: the digest has the numbers of the cells passed behind it.
-- Assumes nothing.
use Rattle.std.proofs.Common.{rules}
use Rattle.digests.proofs.Laws.{passed_none, passed_more, passed_all}
use Rattle.digests.proofs.with_numbers.Goals as goal

pub loop-cell-init : goal.loop-cell-init
loop-cell-init g c = passed_none _ _ _

pub loop-cell-preserved : goal.loop-cell-preserved
loop-cell-preserved g c = search (rules, passed_more)

pub returns : goal.returns
returns g c = let x = c.loop-cell in passed_all _ _ _ x.next x.cell-index x.invariant c.loop-cell-test.false
