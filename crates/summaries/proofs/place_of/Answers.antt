-- `place_of` meets its contract. Assumes nothing.
use Rattle.summaries.proofs.Ways.{other_place}
use Rattle.summaries.proofs.place_of.Goals as goal

pub returns-else-number-eq0 : goal.returns-else-number-eq0
returns-else-number-eq0 c = other_place _ c.if-number-eq0.false
