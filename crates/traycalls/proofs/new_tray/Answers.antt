-- `new_tray` meets its contract. Assumes nothing.
use Rattle.trays.proofs.Ways.{fresh_by}
use borrow.Author.Rules.{rules}
use Rattle.traycalls.proofs.new_tray.Goals as goal

pub returns : goal.returns
returns c = search (rules, fresh_by)
