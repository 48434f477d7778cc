-- `odd_with` meets its contract. Assumes nothing.
use borrow.Author.Rules.{rules}
use Rattle.longlines.proofs.Kept.{odd_so, odd_not}
use Rattle.longlines.proofs.odd_with.Goals as goal

pub returns-then-more-eq1 : goal.returns-then-more-eq1
returns-then-more-eq1 c = search (rules, odd_so)

pub returns : goal.returns
returns c = search (rules, odd_not)
