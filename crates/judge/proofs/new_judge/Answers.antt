-- `new_judge` meets its contract. Assumes nothing.
use Rattle.calls.proofs.Ways.{fresh_by}
use borrow.Author.Rules.{rules}
use Rattle.judge.proofs.new_judge.Goals as goal

pub returns : goal.returns
returns c = search (rules, fresh_by)
