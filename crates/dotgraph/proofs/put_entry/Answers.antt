-- `put_entry` meets its contract. Assumes nothing.
use Rattle.text.proofs.Rooms.{exact, two}
use Rattle.dotgraph.proofs.put_entry.Goals as goal

pub returns : goal.returns
returns c =
    two 1 10 c.requires.1
    (exact c.put_byte-a.ensures)
    (λ h0. two 8 2 h0
    c.put_arrow-b.ensures
    (λ h1. exact c.put_bytes.ensures))
