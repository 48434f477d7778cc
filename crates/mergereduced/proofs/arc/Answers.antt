-- `arc` meets its contract. Assumes nothing.
use Rattle.mergereduced.proofs.Ways.{asked_both, asked_either, asked_interleaving, arc_by_both, arc_by_either, arc_by_interleaving}
use borrow.Author.Rules.{rules}
use Rattle.mergereduced.proofs.arc.Goals as goal

pub both_move-requires : goal.both_move-requires
both_move-requires c = search (rules, asked_both)

pub own_moves-requires : goal.own_moves-requires
own_moves-requires c = search (rules, asked_either)

pub one_moves-requires : goal.one_moves-requires
one_moves-requires c = search (rules, asked_interleaving)

pub returns-in-Both : goal.returns-in-Both
returns-in-Both c = search (rules, arc_by_both)

pub returns-in-Either : goal.returns-in-Either
returns-in-Either c = search (rules, arc_by_either)

pub returns-in-Interleaving : goal.returns-in-Interleaving
returns-in-Interleaving c = search (rules, arc_by_interleaving)
