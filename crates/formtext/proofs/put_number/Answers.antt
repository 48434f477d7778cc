-- `put_number` meets its contract. Assumes nothing.
use native.Mathlib.Omega.{arith}
use Rattle.text.proofs.Rooms.{exact, most, fits, two}
use Rattle.formtext.proofs.Lengths.{number_most}
use Rattle.formtext.proofs.put_number.Goals as goal

pub put_decimal-requires : goal.put_decimal-requires
put_decimal-requires c =
    fits 1 5 0 c.requires (exact c.put_byte-digits.ensures) (number_most c.args.n (omega arith))

pub returns : goal.returns
returns c =
    two 1 5 c.requires (exact c.put_byte-digits.ensures)
    (λ h. most 5 (number_most c.args.n (omega arith)) c.put_decimal.ensures)
