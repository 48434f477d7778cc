-- `put_point` meets its contract. Assumes nothing.
use Rattle.text.proofs.Rooms.{exact, two}
use Rattle.dotgraph.proofs.put_point.Goals as goal

pub returns : goal.returns
returns c =
    two 1 18 c.requires.1
    (exact c.put_byte-a.ensures)
    (λ h0. two 2 16 h0
    c.put_number-b.ensures
    (λ h1. exact c.put_bytes.ensures))
