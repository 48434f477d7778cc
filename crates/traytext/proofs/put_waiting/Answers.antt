-- `put_waiting` meets its contract. Assumes nothing.
use native.Mathlib.Omega.{arith}
use lib.ListN.{length-append}
use Rattle.answers.proofs.Lengths.{byte_most}
use Rattle.traytext.proofs.put_waiting.Goals as goal

pub put_line-requires : goal.put_line-requires
put_line-requires c =
    simp length-append (omega (arith, c.requires, byte_most c.args.empty c.ranges.empty.fits))

pub returns : goal.returns
returns c = c.put_line.ensures
