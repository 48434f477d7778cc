-- `bellbadger_profile_run` meets its contract. Assumes nothing.
use mathlib.Core.Path.{ap}
use Rattle.c_mappings.specs.Numbers.{run_shown}
use Rattle.c_mappings.proofs.bellbadger_profile_run.Goals as goal

pub returns-in-Ok : goal.returns-in-Ok
returns-in-Ok c = rw (c.shown-shown.ensures.0, c.shown-shown.ensures.1, c.in-Ok.is) (ap run_shown (rw c.in-Ok.is at c.run-ran.ensures))

pub returns-in-Err : goal.returns-in-Err
returns-in-Err c =
    rw (c.shown-shown.ensures.0, c.shown-shown.ensures.1, c.in-Err.is) (ap run_shown (rw c.in-Err.is at c.run-ran.ensures))
