-- `withdraw` meets its contract. Assumes nothing.
use Rattle.trays.proofs.Ways.{withdraw_21, withdraw_11, withdraw_23, withdrawn}
use borrow.Author.Rules.{rules}
use Rattle.traycalls.proofs.withdraw.Goals as goal

pub returns-then-board-eq0 : goal.returns-then-board-eq0
returns-then-board-eq0 c = search (rules, withdraw_21)

pub returns-then-bands_of-band : goal.returns-then-bands_of-band
returns-then-bands_of-band c = search (rules, withdraw_11)

pub returns-then-is_empty : goal.returns-then-is_empty
returns-then-is_empty c = search (rules, withdraw_23)

pub returns : goal.returns
returns c = search (rules, withdrawn)
