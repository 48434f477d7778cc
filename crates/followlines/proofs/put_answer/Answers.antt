-- `put_answer` meets its contract. Assumes nothing.
use Rattle.followlines.proofs.Writing.{answered}
use borrow.Author.Rules.{rules}
use Rattle.followlines.proofs.put_answer.Goals as goal

pub returns-in-Forgotten : goal.returns-in-Forgotten
returns-in-Forgotten c = search (rules, answered)

pub returns-in-Begun : goal.returns-in-Begun
returns-in-Begun c = search (rules, answered)

pub returns-in-Yes : goal.returns-in-Yes
returns-in-Yes c = search (rules, answered)

pub returns-in-No : goal.returns-in-No
returns-in-No c = search (rules, answered)

pub returns-in-Lost : goal.returns-in-Lost
returns-in-Lost c = search (rules, answered)

pub returns-in-Refused : goal.returns-in-Refused
returns-in-Refused c = search (rules, answered)

pub returns-in-Malformed : goal.returns-in-Malformed
returns-in-Malformed c = search (rules, answered)
