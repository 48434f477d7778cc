-- `put_mask` meets its contract. Assumes nothing.
use Rattle.followlines.proofs.Writing.{end_room, mask_written}
use borrow.Author.Rules.{rules}
use Rattle.followlines.proofs.put_mask.Goals as goal

pub put_byte-requires : goal.put_byte-requires
put_byte-requires c = search (rules, end_room)

pub returns : goal.returns
returns c = search (rules, mask_written)
