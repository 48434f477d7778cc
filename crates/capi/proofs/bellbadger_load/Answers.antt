-- `bellbadger_load` meets its contract. Assumes nothing.
use mathlib.Core.Path.{ap, ◌∙◌}
use Rattle.capi.specs.Numbers.{install_shown}
use Rattle.capi.proofs.bellbadger_load.Goals as goal

pub returns : goal.returns
returns c = c.install_numbers.ensures ∙ ap install_shown c.load.ensures
