-- `put_lost` meets its contract. Assumes nothing.
use Rattle.followlines.proofs.Writing.{bytes-room, mask_room, lost_written}
use borrow.Author.Rules.{rules}
use Rattle.followlines.proofs.put_lost.Goals as goal

pub put_decimal-at-requires : goal.put_decimal-at-requires
put_decimal-at-requires c = search (rules, bytes-room)

pub put_mask-requires : goal.put_mask-requires
put_mask-requires c = search (rules, mask_room)

pub returns : goal.returns
returns c = search (rules, lost_written)
