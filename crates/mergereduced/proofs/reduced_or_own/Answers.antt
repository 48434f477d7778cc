-- `reduced_or_own` meets its contract. Assumes nothing.
use Rattle.mergereduced.proofs.Ways.{own_taken, own_left}
use borrow.Author.Rules.{rules}
use Rattle.mergereduced.proofs.reduced_or_own.Goals as goal

pub returns-in-Ok : goal.returns-in-Ok
returns-in-Ok c = search (rules, own_taken)

pub returns-in-Err : goal.returns-in-Err
returns-in-Err c = search (rules, own_left)
