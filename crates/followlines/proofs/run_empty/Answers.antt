-- `run_empty` meets its contract. Assumes nothing.
use Rattle.followlines.proofs.Ways.{fresh_line}
use borrow.Author.Rules.{rules}
use Rattle.followlines.proofs.run_empty.Goals as goal

pub returns : goal.returns
returns c = search (rules, fresh_line)
