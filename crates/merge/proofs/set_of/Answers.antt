-- `set_of` meets its contract. Assumes nothing.
use borrow.Author.Rules.{rules}
use Rattle.merge.proofs.Ways.{fits_both, fits_either, fits_interleaving, set_both, set_either, set_interleaving}
use Rattle.merge.proofs.set_of.Goals as goal

pub pairs-requires : goal.pairs-requires
pairs-requires c = search (rules, fits_both)

pub beside-requires : goal.beside-requires
beside-requires c = search (rules, fits_either)

pub pairs-requires-in-Interleaving : goal.pairs-requires-in-Interleaving
pairs-requires-in-Interleaving c = search (rules, fits_interleaving)

pub returns-in-Both : goal.returns-in-Both
returns-in-Both c = search (rules, set_both)

pub returns-in-Either : goal.returns-in-Either
returns-in-Either c = search (rules, set_either)

pub returns-in-Interleaving : goal.returns-in-Interleaving
returns-in-Interleaving c = search (rules, set_interleaving)
