-- `cell_of` meets its contract. Assumes nothing.
use borrow.Author.Rules.{rules}
use Rattle.reduce.proofs.Ways.{cell_state, cell_none}
use Rattle.reduce.proofs.cell_of.Goals as goal

pub returns-then-p-count : goal.returns-then-p-count
returns-then-p-count c = search (rules, cell_state)

pub returns : goal.returns
returns c = search (rules, cell_none)
