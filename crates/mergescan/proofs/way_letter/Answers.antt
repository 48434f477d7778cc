-- `way_letter` meets its contract. Assumes nothing.
use borrow.Author.Rules.{rules}
use Rattle.mergescan.proofs.Kept.{by_way}
use Rattle.mergescan.proofs.way_letter.Goals as goal

pub returns-in-Both : goal.returns-in-Both
returns-in-Both c = search (rules, by_way)

pub returns-in-Either : goal.returns-in-Either
returns-in-Either c = search (rules, by_way)

pub returns-in-Interleaving : goal.returns-in-Interleaving
returns-in-Interleaving c = search (rules, by_way)
