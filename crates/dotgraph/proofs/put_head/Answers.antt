-- `put_head` meets its contract. Assumes nothing.
use Rattle.text.proofs.Rooms.{exact, two}
use Rattle.dotgraph.proofs.put_head.Goals as goal

pub returns : goal.returns
returns c =
    two 15 33 c.requires
    (exact c.put_bytes-a.ensures)
    (λ h0. two 12 21 h0
    (exact c.put_bytes-b.ensures)
    (λ h1. exact c.put_bytes.ensures))
