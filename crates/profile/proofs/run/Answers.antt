-- `run` meets its contract. Assumes nothing.
use Rattle.profile.proofs.Ways.{lent_all}
use Rattle.profile.proofs.run.Goals as goal

pub returns : goal.returns
returns c = c.run_lent.ensures _ (lent_all _)
