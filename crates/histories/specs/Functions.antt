-- What the functions of crates/judge allow by their own contracts, as the checker reads them
-- (`Reads.Learnt`): any result that a function's contract does not rule out. `judge_library` is what
-- a customer's program gets that calls these functions.
--
--   MayBegin .. MayJudge   what `new_judge`, `install`, `load`, `open`, `deliver`, `withdraw` and
--                          `ask_verdict` may return for their arguments
--   AsksStep j c           what the function of the call c asks before it is called on the judge j
--   MayStep j c a next     on the judge j the call c may be answered with a, in document 01's
--                          numbers and values, and leave the judge next
use Rattle.std.specs.Prelude.{◌≡◌, List, ℕ}
use contract.Lifetimes.{Lfts}
use Rattle.std.specs.Borrow.{Bor}
use denote.Triple.Clauses.{AtExit}
use borrow.Fn.Kinds.{ended_of}
use Rattle.executions.specs.Executions.{Library}
use Rattle.automaton.specs.declared.Rule.{Rule}
use Rattle.calls.specs.declared.Judge.{Judge}
use Rattle.calls.specs.declared.InstallResult.{InstallResult}
use Rattle.calls.specs.declared.CallResult.{CallResult}
use Rattle.calls.specs.declared.DeliverResult.{DeliverResult}
use Rattle.calls.specs.declared.Report.{Report}
use Rattle.calls.specs.Replies.{Reply, judged, report_means, install_outcome, call_outcome, deliver_outcome}
use Rattle.calls.specs.Calls.{Call, installs, loads, opens, delivers, withdraws, asks_verdict}
use Rattle.judge.proofs.new_judge.Reads as new_reads
use Rattle.judge.proofs.new_judge.Kinds as new_kinds
use Rattle.judge.proofs.install.Reads as install_reads
use Rattle.judge.proofs.install.Kinds as install_kinds
use Rattle.judge.proofs.load.Reads as load_reads
use Rattle.judge.proofs.load.Kinds as load_kinds
use Rattle.judge.proofs.open.Reads as open_reads
use Rattle.judge.proofs.open.Kinds as open_kinds
use Rattle.judge.proofs.deliver.Reads as deliver_reads
use Rattle.judge.proofs.deliver.Kinds as deliver_kinds
use Rattle.judge.proofs.withdraw.Reads as withdraw_reads
use Rattle.judge.proofs.withdraw.Kinds as withdraw_kinds
use Rattle.judge.proofs.ask_verdict.Reads as verdict_reads
use Rattle.judge.proofs.ask_verdict.Kinds as verdict_kinds

abbrev pub MayBegin : Judge → Type 0
MayBegin j = (s : AtExit (ended_of 0 new_kinds.ps new_kinds.r) tt) × new_reads.Learnt tt tt j s

abbrev pub MayInstall : Judge → Rule → InstallResult → Type 0
MayInstall j rule r = (s : AtExit (ended_of 0 install_kinds.ps install_kinds.r) tt) × install_reads.Learnt tt (j, (rule, tt)) r s

-- a file and a chunk are lent, as a reference to their bytes
abbrev pub MayLoad : Judge → List ℕ → InstallResult → Type 0
MayLoad j f r =
    (κs : Lfts 1) × (c : Bor (List ℕ)) × (s : AtExit (ended_of 1 load_kinds.ps load_kinds.r) κs) × (c.now ≡ f) × load_reads.Learnt κs (j, (c, tt)) r s

abbrev pub MayOpen : Judge → ℕ → CallResult → Type 0
MayOpen j n r = (s : AtExit (ended_of 0 open_kinds.ps open_kinds.r) tt) × open_reads.Learnt tt (j, (n, tt)) r s

abbrev pub MayDeliver : Judge → ℕ → ℕ → List ℕ → DeliverResult → Type 0
MayDeliver j p v w r =
    (κs : Lfts 1) × (c : Bor (List ℕ)) × (s : AtExit (ended_of 1 deliver_kinds.ps deliver_kinds.r) κs) × (c.now ≡ w)
    × deliver_reads.Learnt κs (j, (p, (v, (c, tt)))) r s

abbrev pub MayWithdraw : Judge → ℕ → CallResult → Type 0
MayWithdraw j p r = (s : AtExit (ended_of 0 withdraw_kinds.ps withdraw_kinds.r) tt) × withdraw_reads.Learnt tt (j, (p, tt)) r s

abbrev pub MayJudge : Judge → Report → Type 0
MayJudge j r = (s : AtExit (ended_of 0 verdict_kinds.ps verdict_kinds.r) tt) × verdict_reads.Learnt tt (j, tt) r s

-- what each asks before it is called
abbrev pub AsksStep : Judge → Call → Type 0
AsksStep j (installs rule) = install_reads.Asked tt (j, (rule, tt))
AsksStep j (loads f) = (κs : Lfts 1) (c : Bor (List ℕ)) → c.now ≡ f → load_reads.Asked κs (j, (c, tt))
AsksStep j (opens n) = open_reads.Asked tt (j, (n, tt))
AsksStep j (delivers p v w) = (κs : Lfts 1) (c : Bor (List ℕ)) → c.now ≡ w → deliver_reads.Asked κs (j, (p, (v, (c, tt))))
AsksStep j (withdraws p) = withdraw_reads.Asked tt (j, (p, tt))
AsksStep j asks_verdict = verdict_reads.Asked tt (j, tt)

abbrev pub MayStep : Judge → Call → Reply → Judge → Type 0
MayStep j (installs rule) a next = (r : InstallResult) × MayInstall j rule r × (record { reply = a; state = next } ≡ install_outcome r)
MayStep j (loads f) a next = (r : InstallResult) × MayLoad j f r × (record { reply = a; state = next } ≡ install_outcome r)
MayStep j (opens n) a next = (r : CallResult) × MayOpen j n r × (record { reply = a; state = next } ≡ call_outcome r)
MayStep j (delivers p v w) a next = (r : DeliverResult) × MayDeliver j p v w r × (record { reply = a; state = next } ≡ deliver_outcome r)
MayStep j (withdraws p) a next = (r : CallResult) × MayWithdraw j p r × (record { reply = a; state = next } ≡ call_outcome r)
MayStep j asks_verdict a next = (r : Report) × MayJudge j r × (a ≡ judged (report_means r)) × (next ≡ j)

abbrev pub judge_library : Library Judge Call Reply
judge_library = record { NewAsks = new_reads.Asked tt tt; Begins = MayBegin; Asks = AsksStep; May = MayStep }
