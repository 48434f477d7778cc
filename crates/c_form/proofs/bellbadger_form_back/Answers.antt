-- `bellbadger_form_back` meets its contract. Assumes nothing.
use mathlib.Core.Path.{ap}
use Rattle.c_form.specs.Numbers.{table_shown}
use Rattle.c_form.proofs.bellbadger_form_back.Goals as goal

pub returns-in-Ok : goal.returns-in-Ok
returns-in-Ok c = rw (c.shown-shown.ensures.0, c.shown-shown.ensures.1, c.in-Ok.is) (ap table_shown (rw c.in-Ok.is at c.table_of-back.ensures))

pub returns-in-Err : goal.returns-in-Err
returns-in-Err c =
    rw (c.shown-shown.ensures.0, c.shown-shown.ensures.1, c.in-Err.is, c.no_table-table.ensures) (ap table_shown (rw c.in-Err.is at c.table_of-back.ensures))
