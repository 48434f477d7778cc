-- `run_held` meets its contract. Assumes nothing.
use Rattle.traystream.proofs.Held.{ran, stray}
use borrow.Author.Rules.{rules}
use Rattle.traystream.proofs.run_held.Goals as goal

pub returns-then-seen : goal.returns-then-seen
returns-then-seen c = search (rules, ran)

pub returns : goal.returns
returns c = search (rules, stray)
