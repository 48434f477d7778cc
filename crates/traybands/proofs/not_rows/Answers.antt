-- `not_rows` meets its contract. Assumes nothing.
use borrow.Author.Tests.{eq-eqb, ne_eqb}
use Rattle.traybands.proofs.not_rows.Goals as goal

pub returns-then-bytes-width-ne0 : goal.returns-then-bytes-width-ne0
returns-then-bytes-width-ne0 c = rw (← c.width_of-width.ensures.0, ne_eqb _ _ c.if-bytes-width-ne0.true)

pub returns : goal.returns
returns c = rw (← c.width_of-width.ensures.0, eq-eqb _ _ c.if-bytes-width-ne0.false)
