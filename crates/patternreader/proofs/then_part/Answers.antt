-- `then_part` meets its contract. Assumes nothing.
use Rattle.patternreader.proofs.then_part.Goals as goal

pub returns : goal.returns
returns c = cc
