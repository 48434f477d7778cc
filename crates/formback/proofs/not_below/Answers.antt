-- `not_below` meets its contract. Assumes nothing.
use borrow.Author.Rules.{rules}
use Rattle.formback.proofs.Turns.{first_set_lem, other_set}
use Rattle.formback.proofs.not_below.Goals as goal

pub returns-then-t-eq0 : goal.returns-then-t-eq0
returns-then-t-eq0 c = search (rules, first_set_lem)

pub returns : goal.returns
returns c = search (rules, other_set)
