-- `bellbadger_read` meets its contract. Assumes nothing.
use mathlib.Core.Path.{refl}
use Rattle.capi.proofs.Numbers.{read_accepted, read_refused}
use Rattle.capi.proofs.bellbadger_read.Goals as goal

pub returns-in-Ok : goal.returns-in-Ok
returns-in-Ok c = rw (c.shown-shown.ensures.0, c.shown-shown.ensures.1, c.in-Ok.is) (read_accepted _ _ c.read-reading.ensures _ c.in-Ok.is)

pub returns-in-Err : goal.returns-in-Err
returns-in-Err c =
    rw (c.shown-shown.ensures.0, c.shown-shown.ensures.1, c.in-Err.is)
    (read_refused _ _ c.read-reading.ensures _ c.in-Err.is _ refl _ c.no_rule-rule.ensures)
