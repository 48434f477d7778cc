-- `open_bracket` meets its contract. Assumes nothing.
use Rattle.patternreader.proofs.open_bracket.Goals as goal

pub returns : goal.returns
returns c = cc
