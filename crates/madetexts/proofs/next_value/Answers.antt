-- `next_value` meets its contract. Assumes nothing.
use borrow.Author.Rules.{rules}
use Rattle.madetexts.specs.Values.{next_value}
use Rattle.madetexts.proofs.next_value.Goals as goal

pub returns : goal.returns
unfolding next_value
returns c = search rules
