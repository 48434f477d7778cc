-- `empty_places` meets its contract. Assumes nothing.
use Rattle.board.proofs.empty_places.Goals as goal

pub returns : goal.returns
returns c = rw (← c.places_of.ensures) c.count_empty.ensures
