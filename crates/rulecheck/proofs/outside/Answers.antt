-- `outside` meets its contract. Assumes nothing.
use borrow.Author.Tests.{lt-ltb, le-ltb}
use Rattle.rulecheck.proofs.outside.Goals as goal

pub returns-then-x-lt1 : goal.returns-then-x-lt1
returns-then-x-lt1 c = rw (lt-ltb c.args.x 1 c.if-x-lt1.true)

pub returns : goal.returns
returns c = rw (le-ltb c.args.x 1 c.if-x-lt1.false)
