-- `stands` meets its contract. Assumes nothing.
use borrow.Author.Rules.{rules}
use Rattle.longlines.proofs.Kept.{stands_less, stands_none}
use Rattle.longlines.proofs.stands.Goals as goal

pub returns-then-length-gt0 : goal.returns-then-length-gt0
returns-then-length-gt0 c = search (rules, stands_less)

pub returns-then-odd : goal.returns-then-odd
returns-then-odd c = search (rules, stands_none)
