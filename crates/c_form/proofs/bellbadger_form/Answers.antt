-- `bellbadger_form` meets its contract. Assumes nothing.
use mathlib.Core.Path.{ap}
use Rattle.c_form.specs.Numbers.{form_shown}
use Rattle.c_form.proofs.bellbadger_form.Goals as goal

pub returns-in-Ok : goal.returns-in-Ok
returns-in-Ok c = rw (c.shown-shown.ensures.0, c.shown-shown.ensures.1, c.in-Ok.is) (ap form_shown (rw c.in-Ok.is at c.make_form-made.ensures))

pub returns-in-Err : goal.returns-in-Err
returns-in-Err c =
    rw (c.shown-shown.ensures.0, c.shown-shown.ensures.1, c.in-Err.is, c.no_form-form.ensures) (ap form_shown (rw c.in-Err.is at c.make_form-made.ensures))
