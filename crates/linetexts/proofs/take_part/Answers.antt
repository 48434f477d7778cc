-- `take_part` meets its contract. Assumes nothing.
use Rattle.linetexts.proofs.Taking.{took}
use borrow.Author.Rules.{rules}
use Rattle.linetexts.proofs.take_part.Goals as goal

pub returns : goal.returns
returns c = search (rules, took)
