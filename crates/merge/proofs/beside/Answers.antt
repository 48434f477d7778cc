-- `beside` meets its contract. Assumes nothing.
use borrow.Author.Rules.{rules}
use Rattle.merge.proofs.Ways.{beside_made}
use Rattle.merge.proofs.beside.Goals as goal

pub returns : goal.returns
returns c = search (rules, beside_made)
