-- `way_of` meets its contract. Assumes nothing.
use borrow.Author.Rules.{rules}
use Rattle.merge.proofs.Ways.{way_both, way_either, way_other}
use Rattle.merge.proofs.way_of.Goals as goal

pub returns-then-number-eq0 : goal.returns-then-number-eq0
returns-then-number-eq0 c = search (rules, way_both)

pub returns-then-number-eq1 : goal.returns-then-number-eq1
returns-then-number-eq1 c = search (rules, way_either)

pub returns : goal.returns
returns c = search (rules, way_other)
