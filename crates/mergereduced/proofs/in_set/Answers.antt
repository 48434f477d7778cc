-- `in_set` meets its contract. Assumes nothing.
use Rattle.mergereduced.proofs.Ways.{in_both, in_either, in_interleaving, set_both, set_either, set_interleaving}
use borrow.Author.Rules.{rules}
use Rattle.mergereduced.proofs.in_set.Goals as goal

pub in_pairs-requires : goal.in_pairs-requires
in_pairs-requires c = search (rules, in_both)

pub in_beside-requires : goal.in_beside-requires
in_beside-requires c = search (rules, in_either)

pub in_pairs-requires-in-Interleaving : goal.in_pairs-requires-in-Interleaving
in_pairs-requires-in-Interleaving c = search (rules, in_interleaving)

pub returns-in-Both : goal.returns-in-Both
returns-in-Both c = search (rules, set_both)

pub returns-in-Either : goal.returns-in-Either
returns-in-Either c = search (rules, set_either)

pub returns-in-Interleaving : goal.returns-in-Interleaving
returns-in-Interleaving c = search (rules, set_interleaving)
