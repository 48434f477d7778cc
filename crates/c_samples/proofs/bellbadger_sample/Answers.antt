-- `bellbadger_sample` meets its contract. Assumes nothing.
use native.Mathlib.Omega.{arith}
use Rattle.c_samples.proofs.Numbers.{short}
use Rattle.c_samples.proofs.bellbadger_sample.Goals as goal

pub overflow_cast-result : goal.overflow_cast-result
overflow_cast-result c =
    let f = c.find_sample in
    omega (arith, short c.args.rule c.wish_of.result f.result f.ensures c.in-Ok-Some.spelled (cc))
