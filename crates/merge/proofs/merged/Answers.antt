-- `merged` meets its contract. Assumes nothing.
use borrow.Author.Rules.{rules}
use Rattle.merge.proofs.Ways.{merged_made}
use Rattle.merge.proofs.merged.Goals as goal

pub returns : goal.returns
returns c = search (rules, merged_made)
