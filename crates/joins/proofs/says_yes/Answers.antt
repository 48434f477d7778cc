-- `says_yes` meets its contract. Assumes nothing.
use Rattle.joins.proofs.says_yes.Goals as goal

pub returns : goal.returns
returns c = rw (← c.join.ensures) c.meets.ensures
