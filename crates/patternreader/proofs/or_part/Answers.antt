-- `or_part` meets its contract. Assumes nothing.
use Rattle.patternreader.proofs.or_part.Goals as goal

pub returns : goal.returns
returns c = cc
