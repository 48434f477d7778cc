-- `part_at` meets its contract. Assumes nothing.
use Rattle.linetexts.proofs.Taking.{place_ended, place_on}
use borrow.Author.Rules.{rules}
use Rattle.linetexts.proofs.part_at.Goals as goal

pub returns-then-end-block : goal.returns-then-end-block
returns-then-end-block c = search (rules, place_ended)

pub returns : goal.returns
returns c = search (rules, place_on)
