-- `empty_board` meets its contract. Assumes nothing.
use borrow.Author.Rules.{rules}
use Rattle.trays.specs.Boards.{empty_board}
use Rattle.traybands.proofs.empty_board.Goals as goal

pub returns : goal.returns
unfolding empty_board
returns c = search rules
