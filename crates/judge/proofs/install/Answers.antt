-- `install` meets its contract. Assumes nothing.
use Rattle.calls.proofs.Ways.{install_unchecked, install_unbuilt, installed}
use borrow.Author.Rules.{rules}
use Rattle.judge.proofs.install.Goals as goal

pub returns-in-Err : goal.returns-in-Err
returns-in-Err c = search (rules, install_unchecked)

pub returns-in-Err-build_rule : goal.returns-in-Err-build_rule
returns-in-Err-build_rule c = search (rules, install_unbuilt)

pub returns-in-Ok : goal.returns-in-Ok
returns-in-Ok c = search (rules, installed)
