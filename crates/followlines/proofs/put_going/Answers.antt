-- `put_going` meets its contract. Assumes nothing.
use Rattle.followlines.proofs.Writing.{word_written}
use borrow.Author.Rules.{rules}
use Rattle.followlines.proofs.put_going.Goals as goal

pub returns : goal.returns
returns c = search (rules, word_written)
