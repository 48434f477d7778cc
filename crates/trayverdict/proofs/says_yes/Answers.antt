-- `says_yes` meets its contract. Assumes nothing.
use borrow.Author.Rules.{rules}
use Rattle.trayverdict.proofs.Walks.{some_row_fails, rows_decided}
use Rattle.trayverdict.proofs.says_yes.Goals as goal

pub returns-then-not-rows_pass : goal.returns-then-not-rows_pass
returns-then-not-rows_pass c = search (rules, some_row_fails)

pub returns : goal.returns
returns c = search (rules, rows_decided)
