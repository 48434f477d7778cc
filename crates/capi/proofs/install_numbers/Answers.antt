-- `install_numbers` meets its contract. Assumes nothing.
use borrow.Author.Rules.{rules}
use Rattle.capi.proofs.Numbers.{install_accepted, install_refused}
use Rattle.capi.proofs.install_numbers.Goals as goal

pub returns-in-Ok : goal.returns-in-Ok
returns-in-Ok c = search (rules, install_accepted)

pub returns-in-Err : goal.returns-in-Err
returns-in-Err c = search (rules, install_refused)
