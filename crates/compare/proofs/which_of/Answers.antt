-- `which_of` meets its contract. Assumes nothing.
use Rattle.compare.specs.declared.Which.TheVariants.{First, Second}
use Rattle.compare.proofs.Ways.{which_first, which_second}
use Rattle.compare.proofs.which_of.Goals as goal

pub returns-then-meets : goal.returns-then-meets
returns-then-meets c = which_first _ _ First Second c.meets.ensures c.if-meets.true

pub returns : goal.returns
returns c = which_second _ _ First Second c.meets.ensures c.if-meets.false
