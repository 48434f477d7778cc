-- `own_targets` meets its contract. Assumes nothing.
use borrow.Author.Rules.{rules}
use Rattle.merge.proofs.Ways.{own_first, own_second}
use Rattle.merge.proofs.own_targets.Goals as goal

pub returns-then-q-n1 : goal.returns-then-q-n1
returns-then-q-n1 c = search (rules, own_first)

pub returns : goal.returns
returns c = search (rules, own_second)
