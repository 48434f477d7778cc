-- `put_arrow` meets its contract. Assumes nothing.
use Rattle.text.proofs.Rooms.{exact, two}
use Rattle.dotgraph.proofs.put_arrow.Goals as goal

pub returns : goal.returns
returns c =
    two 2 6 c.requires.2
    c.put_number-a.ensures
    (λ h0. two 4 2 h0
    (exact c.put_bytes-b.ensures)
    (λ h1. c.put_number.ensures))
