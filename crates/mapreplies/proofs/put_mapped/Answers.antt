-- `put_mapped` meets its contract. Assumes nothing.
use Rattle.mapreplies.proofs.Writing.{mapped_room, mapped_whole}
use borrow.Author.Rules.{rules}
use Rattle.mapreplies.proofs.put_mapped.Goals as goal

pub put_byte-requires : goal.put_byte-requires
put_byte-requires c = search (rules, mapped_room)

pub returns : goal.returns
returns c = search (rules, mapped_whole)
