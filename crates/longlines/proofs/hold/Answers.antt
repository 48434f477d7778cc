-- `hold` meets its contract. Assumes nothing.
--
-- The route: the piece is cut in two, the bytes for which the buffer has room and the rest, maybe
-- none. The first part goes behind what is kept (`holds_buffer`); of the rest only two facts are
-- kept, and each is the old fact with that of the rest (`holds-held`).
use borrow.Author.Rules.{rules}
use Rattle.longlines.proofs.Kept.{fits-prefix, fits_room, holds_buffer, holds-held}
use Rattle.longlines.proofs.hold.Goals as goal

pub slice_bounds-put_bytes-end : goal.slice_bounds-put_bytes-end
slice_bounds-put_bytes-end c = search (rules, fits-prefix)

pub put_bytes-length-requires : goal.put_bytes-length-requires
put_bytes-length-requires c = search (rules, fits_room)

pub returns : goal.returns
returns c = search (rules, holds-held, holds_buffer)
