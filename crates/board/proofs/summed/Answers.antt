-- `summed` meets its contract. Assumes nothing.
use Rattle.board.proofs.summed.Goals as goal

pub returns : goal.returns
returns c = rw (← c.places_of.ensures) c.sum_up.ensures
