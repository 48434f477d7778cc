-- `reduced` meets its contract. Assumes nothing.
use borrow.Author.Rules.{rules}
use Rattle.reduce.proofs.Ways.{made_of}
use Rattle.reduce.proofs.reduced.Goals as goal

pub returns : goal.returns
returns c = search (rules, made_of)
