-- `put_text` meets its contract. Assumes nothing.
use Rattle.mergetext.proofs.Others.{end_room, text_written}
use borrow.Author.Rules.{rules}
use Rattle.mergetext.proofs.put_text.Goals as goal

pub put_byte-requires : goal.put_byte-requires
put_byte-requires c = search (rules, end_room)

pub returns : goal.returns
returns c = search (rules, text_written)
