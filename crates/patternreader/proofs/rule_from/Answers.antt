-- `rule_from` meets its contract. Assumes nothing.
use Rattle.patternreader.proofs.rule_from.Goals as goal

pub returns : goal.returns
returns c = cc
