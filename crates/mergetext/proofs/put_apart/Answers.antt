-- `put_apart` meets its contract. Assumes nothing.
use Rattle.mergetext.proofs.Others.{by_which}
use borrow.Author.Rules.{rules}
use Rattle.mergetext.proofs.put_apart.Goals as goal

pub returns-in-First : goal.returns-in-First
returns-in-First c = search (rules, by_which)

pub returns-in-Second : goal.returns-in-Second
returns-in-Second c = search (rules, by_which)
