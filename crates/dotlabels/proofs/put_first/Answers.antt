-- `put_first` meets its contract. Assumes nothing.
use native.Mathlib.Omega.{arith}
use Rattle.dotlabels.proofs.put_first.Goals as goal

pub returns-then-more : goal.returns-then-more
returns-then-more c = rw c.if-more.true c.put_after.ensures

pub returns-else-more : goal.returns-else-more
returns-else-more c = let w = c.put_number.ensures in rw c.if-more.false (w.0, omega (arith, w.1))
