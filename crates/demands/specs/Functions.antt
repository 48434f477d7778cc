-- What the functions that C links allow by their own contracts, as the checker reads them
-- (`Reads.Learnt`): any result that a function's contract does not rule out. `c_library` is what a
-- program in C gets that calls them; crates/histories has the same for the judge's own functions.
--
--   MayBegin .. MayJudge   what `bellbadger_new`, `_install`, `_load`, `_open`, `_deliver`,
--                          `_withdraw` and `_verdict` may return for their arguments
--   MayRead                what `bellbadger_read` may, which is no call
--   AsksStep j c           what the function of the call c asks before it is called on the judge j
--   MayStep j c a next     on the judge j the call c may return numbers that say the reply a, and
--                          leave the judge next
--   MayReplay text r       what `bellbadger_replay` may return for the text
use Rattle.std.specs.Prelude.{◌≡◌, List, ℕ}
use contract.Lifetimes.{Lfts}
use Rattle.std.specs.Borrow.{Bor}
use denote.Triple.Clauses.{AtExit}
use borrow.Fn.Kinds.{ended_of}
use Rattle.executions.specs.Executions.{Library}
use Rattle.automaton.specs.declared.Rule.{Rule}
use Rattle.calls.specs.declared.Judge.{Judge}
use Rattle.calls.specs.Replies.{Reply, judged}
use Rattle.calls.specs.Calls.{Call, installs, loads, opens, delivers, withdraws, asks_verdict}
use Rattle.capi.specs.declared.ReadNumbers.{ReadNumbers}
use Rattle.capi.specs.declared.InstallNumbers.{InstallNumbers}
use Rattle.capi.specs.declared.CallNumbers.{CallNumbers}
use Rattle.capi.specs.declared.DeliverNumbers.{DeliverNumbers}
use Rattle.capi.specs.declared.VerdictNumbers.{VerdictNumbers}
use Rattle.capi.specs.declared.ReplayNumbers.{ReplayNumbers}
use Rattle.capi.specs.Numbers.{install_read_back, call_read_back, deliver_read_back, verdict_read_back}
use Rattle.capi.proofs.bellbadger_new.Reads as new_reads
use Rattle.capi.proofs.bellbadger_new.Kinds as new_kinds
use Rattle.capi.proofs.bellbadger_read.Reads as read_reads
use Rattle.capi.proofs.bellbadger_read.Kinds as read_kinds
use Rattle.capi.proofs.bellbadger_install.Reads as install_reads
use Rattle.capi.proofs.bellbadger_install.Kinds as install_kinds
use Rattle.capi.proofs.bellbadger_load.Reads as load_reads
use Rattle.capi.proofs.bellbadger_load.Kinds as load_kinds
use Rattle.capi.proofs.bellbadger_open.Reads as open_reads
use Rattle.capi.proofs.bellbadger_open.Kinds as open_kinds
use Rattle.capi.proofs.bellbadger_deliver.Reads as deliver_reads
use Rattle.capi.proofs.bellbadger_deliver.Kinds as deliver_kinds
use Rattle.capi.proofs.bellbadger_withdraw.Reads as withdraw_reads
use Rattle.capi.proofs.bellbadger_withdraw.Kinds as withdraw_kinds
use Rattle.capi.proofs.bellbadger_verdict.Reads as verdict_reads
use Rattle.capi.proofs.bellbadger_verdict.Kinds as verdict_kinds
use Rattle.capi.proofs.bellbadger_replay.Reads as replay_reads
use Rattle.capi.proofs.bellbadger_replay.Kinds as replay_kinds

abbrev pub MayBegin : Judge → Type 0
MayBegin j = (s : AtExit (ended_of 0 new_kinds.ps new_kinds.r) tt) × new_reads.Learnt tt tt j s

abbrev pub MayInstall : Judge → Rule → InstallNumbers → Type 0
MayInstall j rule r = (s : AtExit (ended_of 0 install_kinds.ps install_kinds.r) tt) × install_reads.Learnt tt (j, (rule, tt)) r s

-- a file and a chunk are lent, as a reference to their bytes
abbrev pub MayRead : List ℕ → ReadNumbers → Type 0
MayRead f r =
    (κs : Lfts 1) × (c : Bor (List ℕ)) × (s : AtExit (ended_of 1 read_kinds.ps read_kinds.r) κs) × (c.now ≡ f) × read_reads.Learnt κs (c, tt) r s

abbrev pub MayLoad : Judge → List ℕ → InstallNumbers → Type 0
MayLoad j f r =
    (κs : Lfts 1) × (c : Bor (List ℕ)) × (s : AtExit (ended_of 1 load_kinds.ps load_kinds.r) κs) × (c.now ≡ f) × load_reads.Learnt κs (j, (c, tt)) r s

abbrev pub MayOpen : Judge → ℕ → CallNumbers → Type 0
MayOpen j n r = (s : AtExit (ended_of 0 open_kinds.ps open_kinds.r) tt) × open_reads.Learnt tt (j, (n, tt)) r s

abbrev pub MayDeliver : Judge → ℕ → ℕ → List ℕ → DeliverNumbers → Type 0
MayDeliver j p v w r =
    (κs : Lfts 1) × (c : Bor (List ℕ)) × (s : AtExit (ended_of 1 deliver_kinds.ps deliver_kinds.r) κs) × (c.now ≡ w)
    × deliver_reads.Learnt κs (j, (p, (v, (c, tt)))) r s

abbrev pub MayWithdraw : Judge → ℕ → CallNumbers → Type 0
MayWithdraw j p r = (s : AtExit (ended_of 0 withdraw_kinds.ps withdraw_kinds.r) tt) × withdraw_reads.Learnt tt (j, (p, tt)) r s

abbrev pub MayJudge : Judge → VerdictNumbers → Type 0
MayJudge j v = (s : AtExit (ended_of 0 verdict_kinds.ps verdict_kinds.r) tt) × verdict_reads.Learnt tt (j, tt) v s

abbrev pub MayReplay : List ℕ → ReplayNumbers → Type 0
MayReplay text r =
    (κs : Lfts 1) × (c : Bor (List ℕ)) × (s : AtExit (ended_of 1 replay_kinds.ps replay_kinds.r) κs) × (c.now ≡ text) × replay_reads.Learnt κs (c, tt) r s

-- what each asks before it is called
abbrev pub AsksStep : Judge → Call → Type 0
AsksStep j (installs rule) = install_reads.Asked tt (j, (rule, tt))
AsksStep j (loads f) = (κs : Lfts 1) (c : Bor (List ℕ)) → c.now ≡ f → load_reads.Asked κs (j, (c, tt))
AsksStep j (opens n) = open_reads.Asked tt (j, (n, tt))
AsksStep j (delivers p v w) = (κs : Lfts 1) (c : Bor (List ℕ)) → c.now ≡ w → deliver_reads.Asked κs (j, (p, (v, (c, tt))))
AsksStep j (withdraws p) = withdraw_reads.Asked tt (j, (p, tt))
AsksStep j asks_verdict = verdict_reads.Asked tt (j, tt)

abbrev pub MayStep : Judge → Call → Reply → Judge → Type 0
MayStep j (installs rule) a next = (r : InstallNumbers) × MayInstall j rule r × (record { reply = a; state = next } ≡ install_read_back r)
MayStep j (loads f) a next = (r : InstallNumbers) × MayLoad j f r × (record { reply = a; state = next } ≡ install_read_back r)
MayStep j (opens n) a next = (r : CallNumbers) × MayOpen j n r × (record { reply = a; state = next } ≡ call_read_back r)
MayStep j (delivers p v w) a next = (r : DeliverNumbers) × MayDeliver j p v w r × (record { reply = a; state = next } ≡ deliver_read_back r)
MayStep j (withdraws p) a next = (r : CallNumbers) × MayWithdraw j p r × (record { reply = a; state = next } ≡ call_read_back r)
MayStep j asks_verdict a next = (v : VerdictNumbers) × MayJudge j v × (a ≡ judged (verdict_read_back v)) × (next ≡ j)

abbrev pub c_library : Library Judge Call Reply
c_library = record { NewAsks = new_reads.Asked tt tt; Begins = MayBegin; Asks = AsksStep; May = MayStep }
