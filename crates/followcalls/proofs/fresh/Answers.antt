-- `fresh` meets its contract. Assumes nothing.
use Rattle.followcalls.proofs.Ways.{fresh-is}
use borrow.Author.Rules.{rules}
use Rattle.followcalls.proofs.fresh.Goals as goal

pub returns : goal.returns
returns c = search (rules, fresh-is)
