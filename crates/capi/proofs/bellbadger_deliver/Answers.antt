-- `bellbadger_deliver` meets its contract. Assumes nothing.
use borrow.Author.Rules.{rules}
use Rattle.capi.proofs.Numbers.{deliver_accepted, deliver_refused}
use Rattle.capi.proofs.bellbadger_deliver.Goals as goal

pub returns-in-Ok : goal.returns-in-Ok
returns-in-Ok c = search (rules, deliver_accepted)

pub returns-in-Err : goal.returns-in-Err
returns-in-Err c = search (rules, deliver_refused)
