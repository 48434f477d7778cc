-- `put_after` meets its contract. Assumes nothing.
use Rattle.text.proofs.Rooms.{exact, two}
use Rattle.dotlabels.proofs.put_after.Goals as goal

pub returns : goal.returns
returns c =
    two 1 2 c.requires.1
    (exact c.put_byte-a.ensures)
    (λ h. c.put_number.ensures)
