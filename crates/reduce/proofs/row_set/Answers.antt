-- `row_set` meets its contract. Assumes nothing.
use borrow.Author.Rules.{rules}
use Rattle.reduce.proofs.Ways.{row_there_lem, row-none}
use Rattle.reduce.proofs.row_set.Goals as goal

pub returns-then-count-p : goal.returns-then-count-p
returns-then-count-p c = search (rules, row_there_lem)

pub returns : goal.returns
returns c = search (rules, row-none)
