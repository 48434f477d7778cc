-- `put_installed` meets its contract. Assumes nothing.
use native.Mathlib.Omega.{arith}
use lib.ListN.{length-append}
use Rattle.answers.proofs.Lengths.{byte_most, half_most}
use Rattle.traytext.proofs.put_installed.Goals as goal

pub put_line-requires : goal.put_line-requires
put_line-requires c =
    simp length-append (omega (arith, c.requires, half_most c.args.sets c.ranges.sets.fits, byte_most c.args.starts c.ranges.starts.fits))

pub returns : goal.returns
returns c = c.put_line.ensures
