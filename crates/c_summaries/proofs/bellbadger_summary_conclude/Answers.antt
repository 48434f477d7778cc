-- `bellbadger_summary_conclude` meets its contract. Assumes nothing.
use mathlib.Core.Path.{ap, ◌∙◌}
use Rattle.c_summaries.specs.Numbers.{conclude_shown}
use Rattle.c_summaries.proofs.bellbadger_summary_conclude.Goals as goal

pub returns : goal.returns
returns c = c.shown.ensures ∙ ap conclude_shown c.conclude.ensures
