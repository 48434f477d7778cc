-- `put_last` meets its contract. Assumes nothing.
use Rattle.dotlabels.proofs.put_last.Goals as goal

pub returns-then-range : goal.returns-then-range
returns-then-range c = rw c.if-range.true c.put_after.ensures

pub returns-else-range : goal.returns-else-range
returns-else-range c = rw c.if-range.false c.put_after-else-range.ensures
