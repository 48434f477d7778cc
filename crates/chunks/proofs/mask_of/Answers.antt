-- `mask_of` meets its contract. Assumes nothing.
use borrow.Author.Tests.{lt-ltb, le-ltb}
use Rattle.chunks.proofs.mask_of.Goals as goal

pub returns-then-i-lt-SETS : goal.returns-then-i-lt-SETS
returns-then-i-lt-SETS c = rw (lt-ltb c.args.set.0 512 c.if-i-lt-SETS.true)

pub returns-else-i-lt-SETS : goal.returns-else-i-lt-SETS
returns-else-i-lt-SETS c = rw (le-ltb c.args.set.0 512 c.if-i-lt-SETS.false)
