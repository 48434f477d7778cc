-- `bellbadger_follower_prepare` meets its contract. Assumes nothing.
use mathlib.Core.Path.{ap}
use Rattle.c_follow.specs.Numbers.{prepare_shown}
use Rattle.c_follow.proofs.bellbadger_follower_prepare.Goals as goal

pub returns-in-Ok : goal.returns-in-Ok
returns-in-Ok c = rw (c.shown-shown.ensures.0, c.shown-shown.ensures.1, c.in-Ok.is) (ap prepare_shown (rw c.in-Ok.is at c.prepare-prepared.ensures))

pub returns-in-Err : goal.returns-in-Err
returns-in-Err c =
    rw (c.shown-shown.ensures.0, c.shown-shown.ensures.1, c.in-Err.is, c.no_rule-rule.ensures) (ap prepare_shown (rw c.in-Err.is at c.prepare-prepared.ensures))
