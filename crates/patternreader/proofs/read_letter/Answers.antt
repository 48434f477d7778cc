-- `read_letter` meets its contract. Assumes nothing.
use Rattle.patternreader.proofs.read_letter.Goals as goal

pub returns : goal.returns
returns c = cc
