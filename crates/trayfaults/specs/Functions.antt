-- The function, by its own contract as the checker reads it (`Reads.Learnt`): what `fault` may
-- return on a tray that calls through the tray's functions left. proofs/Functions.antt proves
-- `FunctionClaims`.
use Rattle.std.specs.Prelude.{Result, List}
use denote.Triple.Clauses.{AtExit}
use borrow.Fn.Kinds.{ended_of}
use Rattle.executions.specs.Executions.{Execution}
use Rattle.trays.specs.declared.Tray.{Tray}
use Rattle.trays.specs.Replies.{Reply}
use Rattle.trays.specs.Calls.{Call}
use Rattle.trayhistories.specs.Functions.{tray_library}
use Rattle.base.specs.declared.Refusal.{Refusal}
use Rattle.faults.specs.declared.TrayFault.{TrayFault}
use Rattle.faults.specs.Faulting.{fault_means}
use Rattle.faults.proofs.fault.Reads as fault_reads
use Rattle.faults.proofs.fault.Kinds as fault_kinds
use Rattle.trayfaults.specs.Faults.{Faulted}

abbrev pub MayFault : Tray → Result TrayFault Refusal → Type 0
MayFault t r = (s : AtExit (ended_of 0 fault_kinds.ps fault_kinds.r) tt) × fault_reads.Learnt tt (t, tt) r s

pub record FunctionClaims : Type 0 where
  pub fault : (h : List Call) (replies : List Reply) (t : Tray) → Execution tray_library h replies t
      → (r : Result TrayFault Refusal) → MayFault t r → Faulted h (fault_means r)
  -- it asks nothing
  pub fault_asks : (t : Tray) → fault_reads.Asked tt (t, tt)
