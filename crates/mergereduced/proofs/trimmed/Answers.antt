-- `trimmed` meets its contract. Assumes nothing.
use Rattle.mergereduced.proofs.Ways.{listed_there, trimmed_made}
use borrow.Author.Rules.{rules}
use Rattle.mergereduced.proofs.trimmed.Goals as goal

pub set_mask-initials-requires : goal.set_mask-initials-requires
set_mask-initials-requires c = search (rules, listed_there)

pub set_mask-finals-requires : goal.set_mask-finals-requires
set_mask-finals-requires c = search (rules, listed_there)

pub table_of-targets-requires : goal.table_of-targets-requires
table_of-targets-requires c = search (rules, listed_there)

pub returns : goal.returns
returns c = search (rules, trimmed_made)
