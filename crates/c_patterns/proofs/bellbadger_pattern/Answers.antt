-- `bellbadger_pattern` meets its contract. Assumes nothing.
use mathlib.Core.Path.{ap}
use native.Mathlib.Omega.{arith}
use Rattle.c_patterns.specs.Numbers.{pattern_shown}
use Rattle.c_patterns.proofs.Numbers.{small}
use Rattle.c_patterns.proofs.bellbadger_pattern.Goals as goal

pub overflow_cast-result : goal.overflow_cast-result
overflow_cast-result c = omega (arith, small c.args.pattern.now _ (rw c.in-Ok.is at c.write_pattern-written.ensures))

pub returns-in-Ok : goal.returns-in-Ok
returns-in-Ok c = rw (c.shown-shown.ensures.0, c.shown-shown.ensures.1, c.in-Ok.is) (ap pattern_shown (rw c.in-Ok.is at c.write_pattern-written.ensures))

pub returns-in-Err : goal.returns-in-Err
returns-in-Err c = rw (c.shown-shown.ensures.0, c.shown-shown.ensures.1, c.in-Err.is) (ap pattern_shown (rw c.in-Err.is at c.write_pattern-written.ensures))
