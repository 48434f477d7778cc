-- `clear` meets its contract. Assumes nothing.
use Rattle.trays.specs.Boards.{cleared_at}
use Rattle.traybands.proofs.clear.Goals as goal

pub returns : goal.returns
unfolding cleared_at
returns c = rw c.set_band.ensures
