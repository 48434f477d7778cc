-- `said` meets its contract. Assumes nothing.
use Rattle.followcalls.proofs.Ways.{said_lost, said_yes, said_no}
use borrow.Author.Rules.{rules}
use Rattle.followcalls.proofs.said.Goals as goal

pub returns-in-Some : goal.returns-in-Some
returns-in-Some c = search (rules, said_lost)

pub returns-then-ends : goal.returns-then-ends
returns-then-ends c = search (rules, said_yes)

pub returns-else-ends : goal.returns-else-ends
returns-else-ends c = search (rules, said_no)
