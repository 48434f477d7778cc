-- `bellbadger_profile_build` meets its contract. Assumes nothing.
use mathlib.Core.Path.{ap}
use Rattle.c_mappings.specs.Numbers.{build_shown}
use Rattle.c_mappings.proofs.bellbadger_profile_build.Goals as goal

pub returns-in-Ok : goal.returns-in-Ok
returns-in-Ok c = rw (c.shown-shown.ensures.0, c.shown-shown.ensures.1, c.in-Ok.is) (ap build_shown (rw c.in-Ok.is at c.build-built.ensures))

pub returns-in-Err : goal.returns-in-Err
returns-in-Err c =
    rw (c.shown-shown.ensures.0, c.shown-shown.ensures.1, c.in-Err.is, c.nothing_built-profile.ensures) (ap build_shown (rw c.in-Err.is at c.build-built.ensures))
