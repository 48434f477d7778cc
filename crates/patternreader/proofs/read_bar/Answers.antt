-- `read_bar` meets its contract. Assumes nothing.
use Rattle.patternreader.proofs.read_bar.Goals as goal

pub returns : goal.returns
returns c = cc
