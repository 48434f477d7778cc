-- `read_star` meets its contract. Assumes nothing.
use Rattle.patternreader.proofs.read_star.Goals as goal

pub returns : goal.returns
returns c = cc
