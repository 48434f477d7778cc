-- What the functions of a tray that C links allow by their own contracts, as the checker reads them
-- (`Reads.Learnt`): any result that a function's contract does not rule out. `tray_library_of_C` is what
-- a program in C gets that calls them; crates/trayhistories has the same for the functions that they
-- call.
--
--   MayBegin .. MayJudge   what `bellbadger_tray_new`, `_tray_install_row`, `_tray_install_column`,
--                          `_tray_open`, `_tray_deliver`, `_tray_withdraw` and `_tray_verdict` may
--                          return for their arguments
--   AsksStep t c           what the function of the call c asks before it is called on the tray t
--   MayStep t c a next     on the tray t the call c may return numbers that say the reply a, and
--                          leave the tray next
use Rattle.std.specs.Prelude.{◌≡◌, List, ℕ}
use contract.Lifetimes.{Lfts}
use Rattle.std.specs.Borrow.{Bor}
use denote.Triple.Clauses.{AtExit}
use borrow.Fn.Kinds.{ended_of}
use Rattle.executions.specs.Executions.{Library}
use Rattle.automaton.specs.declared.Rule.{Rule}
use Rattle.trays.specs.declared.Tray.{Tray}
use Rattle.trays.specs.Replies.{Reply, judged}
use Rattle.trays.specs.Calls.{Call, installs_row, installs_column, opens, delivers, withdraws, asks_verdict}
use Rattle.c_trays.specs.declared.InstallNumbers.{InstallNumbers}
use Rattle.c_trays.specs.declared.CallNumbers.{CallNumbers}
use Rattle.c_trays.specs.declared.VerdictNumbers.{VerdictNumbers}
use Rattle.c_trays.specs.Numbers.{install_read_back, call_read_back, verdict_read_back}
use Rattle.c_trays.proofs.bellbadger_tray_new.Reads as new_reads
use Rattle.c_trays.proofs.bellbadger_tray_new.Kinds as new_kinds
use Rattle.c_trays.proofs.bellbadger_tray_install_row.Reads as row_reads
use Rattle.c_trays.proofs.bellbadger_tray_install_row.Kinds as row_kinds
use Rattle.c_trays.proofs.bellbadger_tray_install_column.Reads as column_reads
use Rattle.c_trays.proofs.bellbadger_tray_install_column.Kinds as column_kinds
use Rattle.c_trays.proofs.bellbadger_tray_open.Reads as open_reads
use Rattle.c_trays.proofs.bellbadger_tray_open.Kinds as open_kinds
use Rattle.c_trays.proofs.bellbadger_tray_deliver.Reads as deliver_reads
use Rattle.c_trays.proofs.bellbadger_tray_deliver.Kinds as deliver_kinds
use Rattle.c_trays.proofs.bellbadger_tray_withdraw.Reads as withdraw_reads
use Rattle.c_trays.proofs.bellbadger_tray_withdraw.Kinds as withdraw_kinds
use Rattle.c_trays.proofs.bellbadger_tray_verdict.Reads as verdict_reads
use Rattle.c_trays.proofs.bellbadger_tray_verdict.Kinds as verdict_kinds

abbrev pub MayBegin : Tray → Type 0
MayBegin t = (s : AtExit (ended_of 0 new_kinds.ps new_kinds.r) tt) × new_reads.Learnt tt tt t s

abbrev pub MayInstallRow : Tray → Rule → InstallNumbers → Type 0
MayInstallRow t rule r = (s : AtExit (ended_of 0 row_kinds.ps row_kinds.r) tt) × row_reads.Learnt tt (t, (rule, tt)) r s

abbrev pub MayInstallColumn : Tray → Rule → InstallNumbers → Type 0
MayInstallColumn t rule r = (s : AtExit (ended_of 0 column_kinds.ps column_kinds.r) tt) × column_reads.Learnt tt (t, (rule, tt)) r s

abbrev pub MayOpen : Tray → ℕ → ℕ → CallNumbers → Type 0
MayOpen t w n r = (s : AtExit (ended_of 0 open_kinds.ps open_kinds.r) tt) × open_reads.Learnt tt (t, (w, (n, tt))) r s

-- the bytes of a band are lent, as a reference
abbrev pub MayDeliver : Tray → ℕ → List ℕ → CallNumbers → Type 0
MayDeliver t p b r =
    (κs : Lfts 1) × (c : Bor (List ℕ)) × (s : AtExit (ended_of 1 deliver_kinds.ps deliver_kinds.r) κs) × (c.now ≡ b)
    × deliver_reads.Learnt κs (t, (p, (c, tt))) r s

abbrev pub MayWithdraw : Tray → ℕ → CallNumbers → Type 0
MayWithdraw t p r = (s : AtExit (ended_of 0 withdraw_kinds.ps withdraw_kinds.r) tt) × withdraw_reads.Learnt tt (t, (p, tt)) r s

abbrev pub MayJudge : Tray → VerdictNumbers → Type 0
MayJudge t v = (s : AtExit (ended_of 0 verdict_kinds.ps verdict_kinds.r) tt) × verdict_reads.Learnt tt (t, tt) v s

-- what each asks before it is called
abbrev pub AsksStep : Tray → Call → Type 0
AsksStep t (installs_row rule) = row_reads.Asked tt (t, (rule, tt))
AsksStep t (installs_column rule) = column_reads.Asked tt (t, (rule, tt))
AsksStep t (opens w n) = open_reads.Asked tt (t, (w, (n, tt)))
AsksStep t (delivers p b) = (κs : Lfts 1) (c : Bor (List ℕ)) → c.now ≡ b → deliver_reads.Asked κs (t, (p, (c, tt)))
AsksStep t (withdraws p) = withdraw_reads.Asked tt (t, (p, tt))
AsksStep t asks_verdict = verdict_reads.Asked tt (t, tt)

abbrev pub MayStep : Tray → Call → Reply → Tray → Type 0
MayStep t (installs_row rule) a next = (r : InstallNumbers) × MayInstallRow t rule r × (record { reply = a; state = next } ≡ install_read_back r)
MayStep t (installs_column rule) a next = (r : InstallNumbers) × MayInstallColumn t rule r × (record { reply = a; state = next } ≡ install_read_back r)
MayStep t (opens w n) a next = (r : CallNumbers) × MayOpen t w n r × (record { reply = a; state = next } ≡ call_read_back r)
MayStep t (delivers p b) a next = (r : CallNumbers) × MayDeliver t p b r × (record { reply = a; state = next } ≡ call_read_back r)
MayStep t (withdraws p) a next = (r : CallNumbers) × MayWithdraw t p r × (record { reply = a; state = next } ≡ call_read_back r)
MayStep t asks_verdict a next = (v : VerdictNumbers) × MayJudge t v × (a ≡ judged (verdict_read_back v)) × (next ≡ t)

abbrev pub tray_library_of_C : Library Tray Call Reply
tray_library_of_C = record { NewAsks = new_reads.Asked tt tt; Begins = MayBegin; Asks = AsksStep; May = MayStep }
