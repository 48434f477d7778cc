-- `mask_at` meets its contract. Assumes nothing.
use borrow.Author.Rules.{rules}
use Rattle.merge.proofs.Ways.{mask_read}
use Rattle.merge.proofs.mask_at.Goals as goal

pub returns : goal.returns
returns c = search (rules, mask_read)
