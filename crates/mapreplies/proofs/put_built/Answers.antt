-- `put_built` meets its contract. Assumes nothing.
use native.Mathlib.Omega.{arith}
use lib.ListN.{length-append}
use Rattle.answers.proofs.Lengths.{half_most}
use Rattle.mapreplies.proofs.put_built.Goals as goal

pub put_line-requires : goal.put_line-requires
put_line-requires c =
    simp length-append (omega (arith, c.requires, half_most c.args.count c.ranges.count.fits))

pub returns : goal.returns
returns c = c.put_line.ensures
