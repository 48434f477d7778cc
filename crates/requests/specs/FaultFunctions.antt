-- What the function that C links for a tray that goes wrong asks and allows by its own contract, as
-- the checker reads it (`Reads`): any result that the contract does not rule out. crates/trayfaults
-- has the same for the function that it calls.
--
--   AsksFaultC, MayFaultC   `bellbadger_tray_fault`: before it is called on a tray, and what it may
--                           return for it
use denote.Triple.Clauses.{AtExit}
use borrow.Fn.Kinds.{ended_of}
use Rattle.trays.specs.declared.Tray.{Tray}
use Rattle.c_faults.specs.declared.FaultNumbers.{FaultNumbers}
use Rattle.c_faults.proofs.bellbadger_tray_fault.Reads as fault_reads
use Rattle.c_faults.proofs.bellbadger_tray_fault.Kinds as fault_kinds

abbrev pub AsksFaultC : Tray → Type 0
AsksFaultC t = fault_reads.Asked tt (t, tt)

abbrev pub MayFaultC : Tray → FaultNumbers → Type 0
MayFaultC t r = (s : AtExit (ended_of 0 fault_kinds.ps fault_kinds.r) tt) × fault_reads.Learnt tt (t, tt) r s
