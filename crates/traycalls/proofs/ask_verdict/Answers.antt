-- `ask_verdict` meets its contract. Assumes nothing.
use Rattle.trays.proofs.Ways.{verdict_21, verdict_waiting, verdict_yes, verdict_no}
use borrow.Author.Rules.{rules}
use Rattle.traycalls.proofs.ask_verdict.Goals as goal

pub returns-then-board-eq0 : goal.returns-then-board-eq0
returns-then-board-eq0 c = search (rules, verdict_21)

pub returns-then-empty-ne0 : goal.returns-then-empty-ne0
returns-then-empty-ne0 c = search (rules, verdict_waiting)

pub returns-then-says_yes : goal.returns-then-says_yes
returns-then-says_yes c = search (rules, verdict_yes)

pub returns-else-says_yes : goal.returns-else-says_yes
returns-else-says_yes c = search (rules, verdict_no)
