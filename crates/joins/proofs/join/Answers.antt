-- `join` meets its contract. Assumes nothing.
use Rattle.joins.proofs.join.Goals as goal

pub returns : goal.returns
returns c = rw (← c.places_of-places.ensures) c.join_places.ensures
