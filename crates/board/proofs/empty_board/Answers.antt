-- `empty_board` meets its contract. Assumes nothing.
use borrow.Author.Rules.{rules}
use Rattle.board.specs.Boards.{empty_board}
use Rattle.board.proofs.empty_board.Goals as goal

pub returns : goal.returns
unfolding empty_board
returns c = search rules
