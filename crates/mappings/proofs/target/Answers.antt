-- `target` meets its contract. Assumes nothing.
use borrow.Author.Tests.{lt-ltb, le-ltb}
use Rattle.mappings.proofs.target.Goals as goal

pub returns-then-symbol-ge-MOST_SYMBOLS : goal.returns-then-symbol-ge-MOST_SYMBOLS
returns-then-symbol-ge-MOST_SYMBOLS c = rw (le-ltb c.args.symbol 16 c.if-symbol-ge-MOST_SYMBOLS.true)

pub returns : goal.returns
returns c = rw (lt-ltb c.args.symbol 16 c.if-symbol-ge-MOST_SYMBOLS.false)
