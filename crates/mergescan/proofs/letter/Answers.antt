-- `letter` meets its contract. Assumes nothing.
use Rattle.mergescan.proofs.Kept.{by_verb}
use borrow.Author.Rules.{rules}
use Rattle.mergescan.proofs.letter.Goals as goal

pub returns-in-Merge : goal.returns-in-Merge
returns-in-Merge c = search (rules, by_verb)

pub returns-in-Compare : goal.returns-in-Compare
returns-in-Compare c = search (rules, by_verb)

pub returns-in-Reduce : goal.returns-in-Reduce
returns-in-Reduce c = search (rules, by_verb)
