-- The function that C links asks nothing of its caller: what it asks, as the checker reads its
-- contract (`Reads.Asked`), is met by any tray whatever. Assumes nothing.
use Rattle.trays.specs.declared.Tray.{Tray}
use Rattle.c_faults.proofs.bellbadger_tray_fault.Reads as bellbadger_tray_fault

pub fault_asks_nothing : (t : Tray) → bellbadger_tray_fault.Asked tt (t, tt)
fault_asks_nothing t = tt
