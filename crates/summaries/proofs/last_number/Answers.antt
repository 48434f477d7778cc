-- `last_number` meets its contract. Assumes nothing.
use borrow.Author.Tests.{lt-ltb, le-ltb}
use Rattle.summaries.proofs.last_number.Goals as goal

pub returns-then-number-lt-NUMBER : goal.returns-then-number-lt-NUMBER
returns-then-number-lt-NUMBER c = rw (lt-ltb _ _ c.if-number-lt-NUMBER.true)

pub returns-else-number-lt-NUMBER : goal.returns-else-number-lt-NUMBER
returns-else-number-lt-NUMBER c = rw (le-ltb _ _ c.if-number-lt-NUMBER.false)
