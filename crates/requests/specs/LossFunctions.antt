-- What the functions that C links for lost traces ask and allow by their own contracts, as the checker
-- reads them (`Reads`): any result that the contract does not rule out. crates/losses has the same for
-- the functions that they call.
--
--   AsksDiagnoseC, MayDiagnoseC   `bellbadger_diagnose`: before it is called on a judge, and what it may
--                                 return for it
--   AsksLocateC, MayLocateC       `bellbadger_locate`: the same, for a judge, a place and a chunk, which
--                                 is lent as a reference
use Rattle.std.specs.Prelude.{◌≡◌, List, ℕ}
use contract.Lifetimes.{Lfts}
use Rattle.std.specs.Borrow.{Bor}
use denote.Triple.Clauses.{AtExit}
use borrow.Fn.Kinds.{ended_of}
use Rattle.calls.specs.declared.Judge.{Judge}
use Rattle.c_losses.specs.declared.DiagnosisNumbers.{DiagnosisNumbers}
use Rattle.c_losses.specs.declared.SpotNumbers.{SpotNumbers}
use Rattle.c_losses.proofs.bellbadger_diagnose.Reads as diagnose_reads
use Rattle.c_losses.proofs.bellbadger_diagnose.Kinds as diagnose_kinds
use Rattle.c_losses.proofs.bellbadger_locate.Reads as locate_reads
use Rattle.c_losses.proofs.bellbadger_locate.Kinds as locate_kinds

abbrev pub AsksDiagnoseC : Judge → Type 0
AsksDiagnoseC j = diagnose_reads.Asked tt (j, tt)

abbrev pub MayDiagnoseC : Judge → DiagnosisNumbers → Type 0
MayDiagnoseC j r = (s : AtExit (ended_of 0 diagnose_kinds.ps diagnose_kinds.r) tt) × diagnose_reads.Learnt tt (j, tt) r s

abbrev pub AsksLocateC : Lfts 1 → Judge → ℕ → Bor (List ℕ) → Type 0
AsksLocateC κs j p c = locate_reads.Asked κs (j, (p, (c, tt)))

abbrev pub MayLocateC : Judge → ℕ → List ℕ → SpotNumbers → Type 0
MayLocateC j p w r =
    (κs : Lfts 1) × (c : Bor (List ℕ)) × (s : AtExit (ended_of 1 locate_kinds.ps locate_kinds.r) κs) × (c.now ≡ w)
    × locate_reads.Learnt κs (j, (p, (c, tt))) r s
