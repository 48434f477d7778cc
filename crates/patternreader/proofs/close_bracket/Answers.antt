-- `close_bracket` meets its contract. Assumes nothing.
use Rattle.patternreader.proofs.close_bracket.Goals as goal

pub returns : goal.returns
returns c = cc
