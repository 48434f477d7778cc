-- `hex_with` meets its contract. Assumes nothing.
use borrow.Author.Rules.{rules}
use Rattle.longlines.proofs.Kept.{hex_both}
use Rattle.longlines.proofs.hex_with.Goals as goal

pub returns-then-hex : goal.returns-then-hex
returns-then-hex c = search (rules, hex_both)
