-- `follow_by` meets its contract. Assumes nothing.
use Rattle.follow.specs.Following.{follow_by_of}
use Rattle.follow.proofs.follow_by.Goals as goal

pub returns : goal.returns
unfolding follow_by_of
returns c = c.follow_lent.ensures
