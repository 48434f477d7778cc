-- `cell_of` meets its contract. Assumes nothing.
use borrow.Author.Rules.{rules}
use Rattle.merge.proofs.Ways.{cell_state, cell_none}
use Rattle.merge.proofs.cell_of.Goals as goal

pub returns-then-q-states : goal.returns-then-q-states
returns-then-q-states c = search (rules, cell_state)

pub returns : goal.returns
returns c = search (rules, cell_none)
