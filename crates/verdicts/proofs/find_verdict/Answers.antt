-- `find_verdict` meets its contract. Assumes nothing.
use Rattle.board.specs.Boards.{empty_places, summed_count}
use Rattle.calls.proofs.Ways.{verdict_21, verdict_waiting, verdict_yes, verdict_no}
use borrow.Author.Rules.{rules}
use Rattle.verdicts.proofs.find_verdict.Goals as goal

pub returns-then-board-eq0 : goal.returns-then-board-eq0
returns-then-board-eq0 c = search (rules, verdict_21)

pub returns-then-empty-ne0 : goal.returns-then-empty-ne0
unfolding empty_places
returns-then-empty-ne0 c = search (rules, verdict_waiting)

pub returns-then-says_yes : goal.returns-then-says_yes
unfolding empty_places summed_count
returns-then-says_yes c = search (rules, verdict_yes)

pub returns-else-says_yes : goal.returns-else-says_yes
unfolding empty_places summed_count
returns-else-says_yes c = search (rules, verdict_no)
