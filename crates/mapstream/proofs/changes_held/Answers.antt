-- `changes_held` meets its contract. Assumes nothing.
use Rattle.mapstream.proofs.Held.{changes_call, changes_stray}
use borrow.Author.Rules.{rules}
use Rattle.mapstream.proofs.changes_held.Goals as goal

pub returns-then-seen : goal.returns-then-seen
returns-then-seen c = search (rules, changes_call)

pub returns : goal.returns
returns c = search (rules, changes_stray)
