-- `in_beside` meets its contract. Assumes nothing.
use Rattle.mergereduced.proofs.Ways.{beside_low, beside_high}
use borrow.Author.Rules.{rules}
use Rattle.mergereduced.proofs.in_beside.Goals as goal

pub returns-then-p-n1 : goal.returns-then-p-n1
returns-then-p-n1 c = search (rules, beside_low)

pub returns : goal.returns
returns c = search (rules, beside_high)
