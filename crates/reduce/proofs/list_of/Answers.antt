-- `list_of` meets its contract. Assumes nothing.
use borrow.Author.Rules.{rules}
use Rattle.reduce.proofs.Ways.{list_made}
use Rattle.reduce.proofs.list_of.Goals as goal

pub returns : goal.returns
returns c = search (rules, list_made)
