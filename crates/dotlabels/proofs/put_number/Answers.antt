-- `put_number` meets its contract. Assumes nothing.
use native.Mathlib.Omega.{arith}
use Rattle.text.proofs.Digits.{decimal_most}
use Rattle.dotlabels.proofs.put_number.Goals as goal

pub put_decimal-requires : goal.put_decimal-requires
put_decimal-requires c = omega (arith, decimal_most 1 c.args.n c.requires.0)

pub returns : goal.returns
returns c =
    let w = c.put_decimal.ensures in
    (w, omega (arith, w.ends, decimal_most 1 c.args.n c.requires.0))
