-- `bellbadger_verdict` meets its contract. Assumes nothing.
use mathlib.Core.Path.{ap, ◌∙◌}
use Rattle.capi.specs.Numbers.{verdict_shown}
use Rattle.capi.proofs.bellbadger_verdict.Goals as goal

pub returns : goal.returns
returns c = c.shown.ensures ∙ ap verdict_shown c.ask_verdict.ensures
