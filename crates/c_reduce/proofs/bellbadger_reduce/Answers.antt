-- `bellbadger_reduce` meets its contract. Assumes nothing.
use mathlib.Core.Path.{ap}
use Rattle.c_reduce.specs.Numbers.{reduce_shown}
use Rattle.c_reduce.proofs.bellbadger_reduce.Goals as goal

pub returns-in-Ok : goal.returns-in-Ok
returns-in-Ok c = rw (c.shown-shown.ensures.0, c.shown-shown.ensures.1, c.in-Ok.is, c.bit.ensures) (ap reduce_shown (rw c.in-Ok.is at c.reduce-reducing.ensures))

pub returns-in-Err : goal.returns-in-Err
returns-in-Err c =
    rw (c.shown-shown.ensures.0, c.shown-shown.ensures.1, c.in-Err.is, c.no_rule-rule.ensures) (ap reduce_shown (rw c.in-Err.is at c.reduce-reducing.ensures))
