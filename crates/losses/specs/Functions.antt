-- The functions, by their own contracts as the checker reads them (`Reads.Learnt`): what `diagnose`
-- and `locate` may return on a judge that calls through the judge's functions left.
-- proofs/Functions.antt proves `FunctionClaims`.
use Rattle.std.specs.Prelude.{◌≡◌, Result, List, ℕ}
use Rattle.std.specs.Prelude as code
use contract.Lifetimes.{Lfts}
use Rattle.std.specs.Borrow.{Bor}
use denote.Triple.Clauses.{AtExit}
use borrow.Fn.Kinds.{ended_of}
use Rattle.base.specs.declared.Refusal.{Refusal}
use Rattle.executions.specs.Executions.{Execution}
use Rattle.calls.specs.declared.Judge.{Judge}
use Rattle.calls.specs.Replies.{Reply}
use Rattle.calls.specs.Calls.{Call}
use Rattle.diagnoses.specs.declared.Diagnosis.{Diagnosis}
use Rattle.diagnoses.specs.Diagnosing.{diagnosis_means}
use Rattle.diagnoses.proofs.diagnose.Reads as diagnose_reads
use Rattle.diagnoses.proofs.diagnose.Kinds as diagnose_kinds
use Rattle.locating.specs.Locating.{located_means}
use Rattle.locating.proofs.locate.Reads as locate_reads
use Rattle.locating.proofs.locate.Kinds as locate_kinds
use Rattle.histories.specs.Functions.{judge_library}
use Rattle.losses.specs.Losses.{Diagnosed}
use Rattle.losses.specs.Spots.{Spotted}

abbrev pub MayDiagnose : Judge → Result Diagnosis Refusal → Type 0
MayDiagnose j r = (s : AtExit (ended_of 0 diagnose_kinds.ps diagnose_kinds.r) tt) × diagnose_reads.Learnt tt (j, tt) r s

abbrev pub MayLocate : Judge → ℕ → List ℕ → Result (code.Option ℕ) Refusal → Type 0
MayLocate j p w r =
    (κs : Lfts 1) × (c : Bor (List ℕ)) × (s : AtExit (ended_of 1 locate_kinds.ps locate_kinds.r) κs) × (c.now ≡ w)
    × locate_reads.Learnt κs (j, (p, (c, tt))) r s

pub record FunctionClaims : Type 0 where
  pub diagnose : (h : List Call) (replies : List Reply) (j : Judge) → Execution judge_library h replies j
      → (r : Result Diagnosis Refusal) → MayDiagnose j r → Diagnosed h (diagnosis_means r)
  pub locate : (h : List Call) (replies : List Reply) (j : Judge) → Execution judge_library h replies j
      → (p : ℕ) (w : List ℕ) (r : Result (code.Option ℕ) Refusal) → MayLocate j p w r → Spotted h p w (located_means r)
  -- they ask nothing
  pub diagnose_asks : (j : Judge) → diagnose_reads.Asked tt (j, tt)
  pub locate_asks : (κs : Lfts 1) (j : Judge) (p : ℕ) (c : Bor (List ℕ)) → locate_reads.Asked κs (j, (p, (c, tt)))
