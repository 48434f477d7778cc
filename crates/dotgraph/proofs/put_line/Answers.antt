-- `put_line` meets its contract. Assumes nothing.
use native.Mathlib.Omega.{arith}
use Rattle.text.proofs.Rooms.{exact, two}
use Rattle.dotgraph.proofs.put_line.Goals as goal

pub returns : goal.returns
returns c =
    let h = c.requires in
    let w = c.put_label-c.ensures in
    two 8 61 h.3 c.put_arrow-a.ensures
    (λ h0. two 9 52 h0 (exact c.put_bytes-b.ensures)
    (λ h1. two 48 4 h1 (w.0, omega (arith, h.0, w.1)) (λ h2. exact c.put_bytes.ensures)))
