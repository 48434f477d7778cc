-- `last_letter` meets its contract. Assumes nothing.
use Rattle.mergescan.proofs.Kept.{last_by}
use borrow.Author.Rules.{rules}
use Rattle.mergescan.proofs.last_letter.Goals as goal

pub returns-in-Merge : goal.returns-in-Merge
returns-in-Merge c = search (rules, last_by)
