-- What the functions of crates/traycalls allow by their own contracts, as the checker reads them
-- (`Reads.Learnt`): any result that a function's contract does not rule out. `tray_library` is what a
-- customer's program gets that calls these functions.
--
--   MayBegin .. MayJudge   what `new_tray`, `install_row`, `install_column`, `open`, `deliver`,
--                          `withdraw` and `ask_verdict` may return for their arguments
--   AsksStep t c           what the function of the call c asks before it is called on the tray t
--   MayStep t c a next     on the tray t the call c may be answered with a, in document 02's numbers
--                          and values, and leave the tray next
--   EveryRun h             the calls h made through the functions, one after the other.
--                          proofs/Refinement.antt proves it of every list
use Rattle.std.specs.Prelude.{◌≡◌, List, ℕ}
use contract.Lifetimes.{Lfts}
use Rattle.std.specs.Borrow.{Bor}
use denote.Triple.Clauses.{AtExit}
use borrow.Fn.Kinds.{ended_of}
use Rattle.executions.specs.Executions.{Library, Execution}
use Rattle.automaton.specs.declared.Rule.{Rule}
use Rattle.trays.specs.declared.Tray.{Tray}
use Rattle.trays.specs.declared.InstallResult.{InstallResult}
use Rattle.trays.specs.declared.CallResult.{CallResult}
use Rattle.trays.specs.declared.TrayVerdict.{TrayVerdict}
use Rattle.trays.specs.Replies.{Reply, judged, verdict_means}
use Rattle.trays.specs.Calls.{Call, installs_row, installs_column, opens, delivers, withdraws, asks_verdict}
use Rattle.trays.specs.mirror.Steps.{install_outcome, call_outcome}
use Rattle.trayhistories.specs.History.{answers_to}
use Rattle.trayhistories.specs.Claims.{tray_after, Invariant}
use Rattle.traycalls.proofs.new_tray.Reads as new_reads
use Rattle.traycalls.proofs.new_tray.Kinds as new_kinds
use Rattle.traycalls.proofs.install_row.Reads as row_reads
use Rattle.traycalls.proofs.install_row.Kinds as row_kinds
use Rattle.traycalls.proofs.install_column.Reads as column_reads
use Rattle.traycalls.proofs.install_column.Kinds as column_kinds
use Rattle.traycalls.proofs.open.Reads as open_reads
use Rattle.traycalls.proofs.open.Kinds as open_kinds
use Rattle.traycalls.proofs.deliver.Reads as deliver_reads
use Rattle.traycalls.proofs.deliver.Kinds as deliver_kinds
use Rattle.traycalls.proofs.withdraw.Reads as withdraw_reads
use Rattle.traycalls.proofs.withdraw.Kinds as withdraw_kinds
use Rattle.traycalls.proofs.ask_verdict.Reads as verdict_reads
use Rattle.traycalls.proofs.ask_verdict.Kinds as verdict_kinds

abbrev pub MayBegin : Tray → Type 0
MayBegin t = (s : AtExit (ended_of 0 new_kinds.ps new_kinds.r) tt) × new_reads.Learnt tt tt t s

abbrev pub MayInstallRow : Tray → Rule → InstallResult → Type 0
MayInstallRow t rule r = (s : AtExit (ended_of 0 row_kinds.ps row_kinds.r) tt) × row_reads.Learnt tt (t, (rule, tt)) r s

abbrev pub MayInstallColumn : Tray → Rule → InstallResult → Type 0
MayInstallColumn t rule r = (s : AtExit (ended_of 0 column_kinds.ps column_kinds.r) tt) × column_reads.Learnt tt (t, (rule, tt)) r s

abbrev pub MayOpen : Tray → ℕ → ℕ → CallResult → Type 0
MayOpen t w n r = (s : AtExit (ended_of 0 open_kinds.ps open_kinds.r) tt) × open_reads.Learnt tt (t, (w, (n, tt))) r s

-- the bytes of a band are lent, as a reference
abbrev pub MayDeliver : Tray → ℕ → List ℕ → CallResult → Type 0
MayDeliver t p b r =
    (κs : Lfts 1) × (c : Bor (List ℕ)) × (s : AtExit (ended_of 1 deliver_kinds.ps deliver_kinds.r) κs) × (c.now ≡ b)
    × deliver_reads.Learnt κs (t, (p, (c, tt))) r s

abbrev pub MayWithdraw : Tray → ℕ → CallResult → Type 0
MayWithdraw t p r = (s : AtExit (ended_of 0 withdraw_kinds.ps withdraw_kinds.r) tt) × withdraw_reads.Learnt tt (t, (p, tt)) r s

abbrev pub MayJudge : Tray → TrayVerdict → Type 0
MayJudge t v = (s : AtExit (ended_of 0 verdict_kinds.ps verdict_kinds.r) tt) × verdict_reads.Learnt tt (t, tt) v s

-- what each asks before it is called
abbrev pub AsksStep : Tray → Call → Type 0
AsksStep t (installs_row rule) = row_reads.Asked tt (t, (rule, tt))
AsksStep t (installs_column rule) = column_reads.Asked tt (t, (rule, tt))
AsksStep t (opens w n) = open_reads.Asked tt (t, (w, (n, tt)))
AsksStep t (delivers p b) = (κs : Lfts 1) (c : Bor (List ℕ)) → c.now ≡ b → deliver_reads.Asked κs (t, (p, (c, tt)))
AsksStep t (withdraws p) = withdraw_reads.Asked tt (t, (p, tt))
AsksStep t asks_verdict = verdict_reads.Asked tt (t, tt)

abbrev pub MayStep : Tray → Call → Reply → Tray → Type 0
MayStep t (installs_row rule) a next = (r : InstallResult) × MayInstallRow t rule r × (record { reply = a; state = next } ≡ install_outcome r)
MayStep t (installs_column rule) a next = (r : InstallResult) × MayInstallColumn t rule r × (record { reply = a; state = next } ≡ install_outcome r)
MayStep t (opens w n) a next = (r : CallResult) × MayOpen t w n r × (record { reply = a; state = next } ≡ call_outcome r)
MayStep t (delivers p b) a next = (r : CallResult) × MayDeliver t p b r × (record { reply = a; state = next } ≡ call_outcome r)
MayStep t (withdraws p) a next = (r : CallResult) × MayWithdraw t p r × (record { reply = a; state = next } ≡ call_outcome r)
MayStep t asks_verdict a next = (v : TrayVerdict) × MayJudge t v × (a ≡ judged (verdict_means v)) × (next ≡ t)

abbrev pub tray_library : Library Tray Call Reply
tray_library = record { NewAsks = new_reads.Asked tt tt; Begins = MayBegin; Asks = AsksStep; May = MayStep }

pub record EveryRun (h : List Call) : Type 0 where
  -- they can be made, and any other call after them: nothing is asked of the caller
  pub made : Execution tray_library h (answers_to h) (tray_after h)
  pub asks_nothing : (c : Call) → AsksStep (tray_after h) c
  -- and whenever they were, the replies were the list's own answers, and the tray is as it says
  pub replies : (rs : List Reply) (t : Tray) → Execution tray_library h rs t → rs ≡ answers_to h
  pub state : (rs : List Reply) (t : Tray) → Execution tray_library h rs t → Invariant h t
