-- `bellbadger_withdraw` meets its contract. Assumes nothing.
use mathlib.Core.Path.{ap, ◌∙◌}
use Rattle.capi.specs.Numbers.{call_shown}
use Rattle.capi.proofs.bellbadger_withdraw.Goals as goal

pub returns : goal.returns
returns c = c.call_numbers.ensures ∙ ap call_shown c.withdraw.ensures
