-- `put_refused` meets its contract. Assumes nothing.
use native.Mathlib.Omega.{arith}
use Rattle.answers.proofs.Lengths.{refused_most}
use Rattle.answers.proofs.put_refused.Goals as goal

pub put_line-requires : goal.put_line-requires
put_line-requires c = omega (arith, c.requires, refused_most c.args.number c.ranges.number.fits)

pub returns : goal.returns
returns c = c.put_line.ensures
