-- What the functions that save and restore a judge ask and allow by their own contracts, as the
-- checker reads them (`Reads`): any result that the contract does not rule out.
--
--   AsksSave, MaySave         `save`: before it is called on a judge, and what it may return for it
--   AsksRestore, MayRestore   `restore`: the same, for bytes, which are lent as a reference
--   AsksSaveC, MaySaveC, AsksRestoreC, MayRestoreC   the same of those that C links
use Rattle.base.specs.declared.Refusal.{Refusal}
use Rattle.std.specs.Prelude.{Result, ◌≡◌, List, ℕ}
use contract.Lifetimes.{Lfts}
use Rattle.std.specs.Borrow.{Bor}
use denote.Triple.Clauses.{AtExit}
use borrow.Fn.Kinds.{ended_of}
use Rattle.calls.specs.declared.Judge.{Judge}
use Rattle.saved_judge.specs.declared.Saved.{Saved}
use Rattle.saved_judge.proofs.save.Reads as save_reads
use Rattle.saved_judge.proofs.save.Kinds as save_kinds
use Rattle.saved_judge.proofs.restore.Reads as restore_reads
use Rattle.saved_judge.proofs.restore.Kinds as restore_kinds
use Rattle.c_saved.specs.declared.RestoreNumbers.{RestoreNumbers}
use Rattle.c_saved.proofs.bellbadger_save.Reads as c_save_reads
use Rattle.c_saved.proofs.bellbadger_save.Kinds as c_save_kinds
use Rattle.c_saved.proofs.bellbadger_restore.Reads as c_restore_reads
use Rattle.c_saved.proofs.bellbadger_restore.Kinds as c_restore_kinds

abbrev pub AsksSave : Judge → Type 0
AsksSave j = save_reads.Asked tt (j, tt)

abbrev pub MaySave : Judge → Saved → Type 0
MaySave j r = (s : AtExit (ended_of 0 save_kinds.ps save_kinds.r) tt) × save_reads.Learnt tt (j, tt) r s

abbrev pub AsksRestore : Lfts 1 → Bor (List ℕ) → Type 0
AsksRestore κs b = restore_reads.Asked κs (b, tt)

abbrev pub MayRestore : List ℕ → Result Judge Refusal → Type 0
MayRestore w r =
    (κs : Lfts 1) × (b : Bor (List ℕ)) × (s : AtExit (ended_of 1 restore_kinds.ps restore_kinds.r) κs) × (b.now ≡ w)
    × restore_reads.Learnt κs (b, tt) r s

abbrev pub AsksSaveC : Judge → Type 0
AsksSaveC j = c_save_reads.Asked tt (j, tt)

abbrev pub MaySaveC : Judge → Saved → Type 0
MaySaveC j r = (s : AtExit (ended_of 0 c_save_kinds.ps c_save_kinds.r) tt) × c_save_reads.Learnt tt (j, tt) r s

abbrev pub AsksRestoreC : Lfts 1 → Bor (List ℕ) → Type 0
AsksRestoreC κs b = c_restore_reads.Asked κs (b, tt)

abbrev pub MayRestoreC : List ℕ → RestoreNumbers → Type 0
MayRestoreC w r =
    (κs : Lfts 1) × (b : Bor (List ℕ)) × (s : AtExit (ended_of 1 c_restore_kinds.ps c_restore_kinds.r) κs) × (b.now ≡ w)
    × c_restore_reads.Learnt κs (b, tt) r s
