-- `put_mask` meets its contract. Assumes nothing.
use native.Mathlib.Omega.{arith}
use Rattle.text.proofs.Digits.{hex_length}
use Rattle.text.proofs.Rooms.{exact, most, two}
use Rattle.formtext.proofs.put_mask.Goals as goal

pub returns : goal.returns
returns c =
    two 1 4 c.requires (exact c.put_byte-digits.ensures)
    (λ h. most 4 (omega (arith, hex_length 4 c.args.mask)) c.put_hex.ensures)
