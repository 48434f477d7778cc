-- `lacks_rule` meets its contract. Assumes nothing.
use borrow.Author.Tests.{eq-eqb, ne_eqb}
use Rattle.traycalls.proofs.lacks_rule.Goals as goal

pub returns-then-row-eq0 : goal.returns-then-row-eq0
returns-then-row-eq0 c = rw (eq-eqb _ _ c.if-row-eq0.true)

pub returns : goal.returns
returns c = rw (ne_eqb _ _ c.if-row-eq0.false)
