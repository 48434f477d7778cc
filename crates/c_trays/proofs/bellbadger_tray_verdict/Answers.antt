-- `bellbadger_tray_verdict` meets its contract. Assumes nothing.
use mathlib.Core.Path.{ap}
use Rattle.c_trays.specs.Numbers.{verdict_shown}
use Rattle.c_trays.proofs.bellbadger_tray_verdict.Goals as goal

pub returns : goal.returns
returns c = rw (c.kind_of.ensures, c.number_of.ensures) (ap verdict_shown c.ask_verdict-verdict.ensures)
