-- `bellbadger_tray_install_column` meets its contract. Assumes nothing.
use mathlib.Core.Path.{ap, ◌∙◌}
use Rattle.c_trays.specs.Numbers.{install_shown}
use Rattle.c_trays.proofs.bellbadger_tray_install_column.Goals as goal

pub returns : goal.returns
returns c = c.install_numbers.ensures ∙ ap install_shown c.install_column.ensures
