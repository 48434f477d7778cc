-- `end_first` meets its contract. Assumes nothing.
use borrow.Author.Rules.{rules}
use Rattle.mergescan.proofs.Kept.{first_ends, first_stray}
use Rattle.mergescan.proofs.end_first.Goals as goal

pub returns-in-Some : goal.returns-in-Some
returns-in-Some c = search (rules, first_ends)

pub returns-in-None : goal.returns-in-None
returns-in-None c = search (rules, first_stray)
