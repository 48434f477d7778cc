-- `with_column` meets its contract. Assumes nothing.
use Rattle.traycalls.proofs.with_column.Goals as goal

pub returns : goal.returns
returns c = rw c.empty_board-board.ensures
