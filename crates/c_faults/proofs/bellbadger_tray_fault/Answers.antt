-- `bellbadger_tray_fault` meets its contract. Assumes nothing.
use mathlib.Core.Path.{ap}
use Rattle.c_faults.specs.Numbers.{fault_shown}
use Rattle.c_faults.proofs.bellbadger_tray_fault.Goals as goal

pub returns-in-Err : goal.returns-in-Err
returns-in-Err c = rw c.number.ensures (ap fault_shown c.in-Err.ensures)
