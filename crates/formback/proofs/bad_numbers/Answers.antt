-- `bad_numbers` meets its contract. Assumes nothing.
use borrow.Author.Rules.{rules}
use Rattle.formback.proofs.Turns.{first_bad, second_bad}
use Rattle.formback.proofs.bad_numbers.Goals as goal

pub returns-then-outside : goal.returns-then-outside
returns-then-outside c = search (rules, first_bad)

pub returns : goal.returns
returns c = search (rules, second_bad)
