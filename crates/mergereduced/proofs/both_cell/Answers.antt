-- `both_cell` meets its contract. Assumes nothing.
use Rattle.mergereduced.proofs.Cells.{cell_in, cell_out}
use Rattle.mergereduced.proofs.Ways.{cell_both, cell_first, cell_second}
use borrow.Author.Rules.{rules}
use Rattle.mergereduced.proofs.both_cell.Goals as goal

pub returns-then-b-q-eq1 : goal.returns-then-b-q-eq1
returns-then-b-q-eq1 c = search (rules, cell_both, cell_in)

pub returns-else-b-q-eq1 : goal.returns-else-b-q-eq1
returns-else-b-q-eq1 c = search (rules, cell_second, cell_out)

pub returns-else-a-q-eq1 : goal.returns-else-a-q-eq1
returns-else-a-q-eq1 c = search (rules, cell_first, cell_out)
