-- `begin` meets its contract. Assumes nothing.
use Rattle.patternreader.proofs.begin.Goals as goal

pub returns : goal.returns
returns c = cc
