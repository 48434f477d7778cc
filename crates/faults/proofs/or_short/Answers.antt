-- `or_short` meets its contract. Assumes nothing.
use Rattle.faults.proofs.Ways.{short_was, short_not, short_now}
use Rattle.faults.proofs.or_short.Goals as goal

pub returns-in-Some : goal.returns-in-Some
returns-in-Some c = short_was _ _ _ c.in-Some.is

pub returns-then-meets : goal.returns-then-meets
returns-then-meets c =
    let a = c.args in
    short_not _ a.column a.set a.finals _ c.meets.ensures c.in-None.is c.if-meets.true

pub returns-else-meets : goal.returns-else-meets
returns-else-meets c =
    let a = c.args in
    short_now _ a.column a.set a.finals _ c.meets.ensures c.in-None.is c.if-meets.false
