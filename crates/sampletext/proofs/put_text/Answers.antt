-- `put_text` meets its contract. Assumes nothing.
use native.Mathlib.Omega.{arith}
use Rattle.text.proofs.Rooms.{exact, most, left, more, two}
use Rattle.sampletext.proofs.Lines.{field_most}
use Rattle.sampletext.proofs.put_text.Goals as goal

pub put_byte-requires : goal.put_byte-requires
put_byte-requires c =
    let h = left 8 1023 c.requires.2 (most 8 (omega (arith, c.requires.0)) c.put_bytes-a.ensures) in
    more 1022 0 h (most 1022 (field_most c.args.bytes.now c.requires.1) c.put_field-b.ensures)

pub returns : goal.returns
returns c =
    two 8 1023 c.requires.2 (most 8 (omega (arith, c.requires.0)) c.put_bytes-a.ensures)
    (λ h0. two 1022 1 h0 (most 1022 (field_most c.args.bytes.now c.requires.1) c.put_field-b.ensures)
    (λ h1. exact c.put_byte.ensures))
