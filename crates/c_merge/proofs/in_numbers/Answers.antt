-- `in_numbers` meets its contract. Assumes nothing.
use Rattle.c_merge.proofs.in_numbers.Goals as goal

pub returns-in-Ok : goal.returns-in-Ok
returns-in-Ok c = rw (c.shown-shown.ensures.0, c.shown-shown.ensures.1, c.in-Ok.is)

pub returns-in-Err : goal.returns-in-Err
returns-in-Err c = rw (c.shown-shown.ensures.0, c.shown-shown.ensures.1, c.in-Err.is, c.no_rule-rule.ensures)
