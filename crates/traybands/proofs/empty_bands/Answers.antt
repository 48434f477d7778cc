-- `empty_bands` meets its contract. Assumes nothing.
use Rattle.trays.specs.Boards.{empty_bands}
use Rattle.traybands.proofs.empty_bands.Goals as goal

pub returns : goal.returns
unfolding empty_bands
returns c = rw (← c.bands_of-bands.ensures) c.count_empty.ensures
