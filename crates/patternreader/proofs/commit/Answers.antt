-- `commit` meets its contract. Assumes nothing.
use Rattle.patternreader.proofs.commit.Goals as goal

pub returns : goal.returns
returns c = cc
