-- `earlier` meets its contract. Assumes nothing.
use borrow.Author.Tests.{le-leb, lt-leb}
use Rattle.dotlabels.proofs.earlier.Goals as goal

pub returns-then-back-s : goal.returns-then-back-s
returns-then-back-s c = let a = c.args in rw (le-leb a.back a.s c.if-back-s.true) c.leads.ensures

pub returns-else-back-s : goal.returns-else-back-s
returns-else-back-s c = let a = c.args in rw (lt-leb a.back a.s c.if-back-s.false)
