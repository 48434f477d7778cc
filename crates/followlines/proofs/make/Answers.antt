-- `make` meets its contract. Assumes nothing.
use Rattle.followlines.proofs.Ways.{made}
use borrow.Author.Rules.{rules}
use Rattle.followlines.proofs.make.Goals as goal

pub returns-then-rule : goal.returns-then-rule
returns-then-rule c = search (rules, made)

pub returns-else-rule : goal.returns-else-rule
returns-else-rule c = search (rules, made)
