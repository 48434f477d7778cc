-- `put_head` meets its contract. Assumes nothing.
use Rattle.text.proofs.Rooms.{exact, most, left, fits, more, two}
use Rattle.ruletext.proofs.Lengths.{number_most}
use Rattle.profiletext.proofs.put_head.Goals as goal

pub put_decimal-b-requires : goal.put_decimal-b-requires
put_decimal-b-requires c =
    fits 9 3 1 c.requires.1 (exact c.put_bytes-a.ensures) (number_most c.args.count c.requires.0)

pub put_byte-requires : goal.put_byte-requires
put_byte-requires c =
    let h = left 9 4 c.requires.1 (exact c.put_bytes-a.ensures) in
    more 3 0 h (most 3 (number_most c.args.count c.requires.0) c.put_decimal-b.ensures)

pub returns : goal.returns
returns c =
    two 9 4 c.requires.1 (exact c.put_bytes-a.ensures)
    (λ h0. two 3 1 h0 (most 3 (number_most c.args.count c.requires.0) c.put_decimal-b.ensures)
    (λ h1. exact c.put_byte.ensures))
