-- `load` meets its contract. Assumes nothing.
use Rattle.calls.proofs.Ways.{load_unread, load_read}
use borrow.Author.Rules.{rules}
use Rattle.judge.proofs.load.Goals as goal

pub returns-in-Err : goal.returns-in-Err
returns-in-Err c = search (rules, load_unread)

pub returns-in-Ok : goal.returns-in-Ok
returns-in-Ok c = search (rules, load_read)
