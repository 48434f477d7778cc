-- `bellbadger_tray_deliver` meets its contract. Assumes nothing.
use mathlib.Core.Path.{ap, ◌∙◌}
use Rattle.c_trays.specs.Numbers.{call_shown}
use Rattle.c_trays.proofs.bellbadger_tray_deliver.Goals as goal

pub returns : goal.returns
returns c = c.call_numbers.ensures ∙ ap call_shown c.deliver.ensures
