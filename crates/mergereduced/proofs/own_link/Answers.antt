-- `own_link` meets its contract. Assumes nothing.
use Rattle.mergereduced.proofs.Ways.{own_1, own_2, own_out, own_in}
use borrow.Author.Rules.{rules}
use Rattle.mergereduced.proofs.own_link.Goals as goal

pub returns-then-p-n1 : goal.returns-then-p-n1
returns-then-p-n1 c = search (rules, own_1)

pub returns-then-q-n1 : goal.returns-then-q-n1
returns-then-q-n1 c = search (rules, own_out)

pub returns-then-p-n1-2 : goal.returns-then-p-n1-2
returns-then-p-n1-2 c = search (rules, own_in)

pub returns : goal.returns
returns c = search (rules, own_2)
