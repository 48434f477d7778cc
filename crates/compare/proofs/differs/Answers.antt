-- `differs` meets its contract. Assumes nothing.
use Rattle.compare.proofs.Ways.{differ_first, differ_second}
use Rattle.compare.proofs.differs.Goals as goal

pub returns-then-meets : goal.returns-then-meets
returns-then-meets c = differ_first _ _ _ _ c.meets-second.ensures c.meets.ensures c.if-meets.true

pub returns : goal.returns
returns c = differ_second _ _ _ _ c.meets-second.ensures c.meets.ensures c.if-meets.false
