-- `put_pair` meets its contract. Assumes nothing.
use borrow.Author.Rules.{rules}
use Rattle.hexfields.proofs.Kept.{pair_room, pair_full}
use Rattle.hexfields.proofs.put_pair.Goals as goal

pub returns-then-at-buffer : goal.returns-then-at-buffer
returns-then-at-buffer c = search (rules, pair_room)

pub returns : goal.returns
returns c = search (rules, pair_full)
