-- `bellbadger_summarize` meets its contract. Assumes nothing.
use mathlib.Core.Path.{ap}
use Rattle.c_summaries.specs.Numbers.{summary_shown}
use Rattle.c_summaries.proofs.bellbadger_summarize.Goals as goal

pub returns-in-Ok : goal.returns-in-Ok
returns-in-Ok c = rw (c.shown-shown.ensures.0, c.shown-shown.ensures.1, c.in-Ok.is) (ap summary_shown (rw c.in-Ok.is at c.summarize-made.ensures))

pub returns-in-Err : goal.returns-in-Err
returns-in-Err c =
    rw (c.shown-shown.ensures.0, c.shown-shown.ensures.1, c.in-Err.is, c.no_summary-summary.ensures) (ap summary_shown (rw c.in-Err.is at c.summarize-made.ensures))
