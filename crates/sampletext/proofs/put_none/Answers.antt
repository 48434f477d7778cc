-- `put_none` meets its contract. Assumes nothing.
use native.Mathlib.Omega.{arith}
use Rattle.text.proofs.Rooms.{most, two}
use Rattle.sampletext.proofs.put_none.Goals as goal

pub returns : goal.returns
returns c =
    two 8 1023 c.requires.1 (most 8 (omega (arith, c.requires.0)) c.put_bytes-a.ensures)
    (λ h0. most 1023 (omega arith) c.put_bytes.ensures)
