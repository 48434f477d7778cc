-- `link` meets its contract. Assumes nothing.
use Rattle.mergereduced.proofs.Ways.{in_both, in_either, in_interleaving, link_both, link_either, link_interleaving}
use borrow.Author.Rules.{rules}
use Rattle.mergereduced.proofs.link.Goals as goal

pub both_link-requires : goal.both_link-requires
both_link-requires c = search (rules, in_both)

pub own_link-requires : goal.own_link-requires
own_link-requires c = search (rules, in_either)

pub one_link-requires : goal.one_link-requires
one_link-requires c = search (rules, in_interleaving)

pub returns-in-Both : goal.returns-in-Both
returns-in-Both c = search (rules, link_both)

pub returns-in-Either : goal.returns-in-Either
returns-in-Either c = search (rules, link_either)

pub returns-in-Interleaving : goal.returns-in-Interleaving
returns-in-Interleaving c = search (rules, link_interleaving)
