-- `withdraw` meets its contract. Assumes nothing.
use Rattle.calls.proofs.Ways.{withdraw_21, withdraw_11, withdraw_23, withdrawn}
use borrow.Author.Rules.{rules}
use Rattle.judge.proofs.withdraw.Goals as goal

pub returns-then-board-eq0 : goal.returns-then-board-eq0
returns-then-board-eq0 c = search (rules, withdraw_21)

pub returns-then-places_of-place : goal.returns-then-places_of-place
returns-then-places_of-place c = search (rules, withdraw_11)

pub returns-then-is_empty : goal.returns-then-is_empty
returns-then-is_empty c = search (rules, withdraw_23)

pub returns : goal.returns
returns c = search (rules, withdrawn)
