-- `put_named` meets its contract. Assumes nothing.
use lib.ListN.{length}
use Rattle.text.proofs.Rooms.{exact, left, two}
use Rattle.formtext.proofs.put_named.Goals as goal

pub put_number-requires : goal.put_number-requires
put_number-requires c =
    left (length c.args.word.now) 6 c.requires (exact c.put_bytes-number.ensures)

pub returns : goal.returns
returns c =
    two (length c.args.word.now) 6 c.requires (exact c.put_bytes-number.ensures) (λ h. c.put_number.ensures)
