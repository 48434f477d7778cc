-- `reduce_file` meets its contract. Assumes nothing.
use Rattle.mergetext.proofs.Others.{made_passes}
use Rattle.mergetext.proofs.reduce_file.Goals as goal

pub returns-clause-passes : goal.returns-clause-passes
returns-clause-passes c = made_passes c.in_ok-rule.rule c.in_ok-reduced.reduced c.in_ok-reduced.ensures
