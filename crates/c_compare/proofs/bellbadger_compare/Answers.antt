-- `bellbadger_compare` meets its contract. Assumes nothing.
use native.Mathlib.Omega.{arith}
use Rattle.c_compare.proofs.Numbers.{short}
use Rattle.c_compare.proofs.bellbadger_compare.Goals as goal

pub overflow_cast-result : goal.overflow_cast-result
overflow_cast-result c =
    let f = c.compare in
    omega (arith, short c.args.one c.args.two f.result f.ensures c.in-Ok-Some.apart (cc))
