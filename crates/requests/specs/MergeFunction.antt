-- What the functions that merge two rules (R-10) ask and allow by their own contracts, as the checker
-- reads them (`Reads`): any result that the contract does not rule out.
--
--   AsksMerge, MayMerge    `merge`: before it is called on a way and two rules, and what it may
--                          return for them
--   AsksMergeC, MayMergeC  `bellbadger_merge`, which C links: the same, the way being a number
use Rattle.base.specs.declared.Refusal.{Refusal}
use Rattle.std.specs.Prelude.{Result, ℕ}
use denote.Triple.Clauses.{AtExit}
use borrow.Fn.Kinds.{ended_of}
use Rattle.automaton.specs.declared.Rule.{Rule}
use Rattle.merging.specs.declared.Way.{Way}
use Rattle.merge.proofs.merge.Reads as merge_reads
use Rattle.merge.proofs.merge.Kinds as merge_kinds
use Rattle.c_merge.specs.declared.MergeNumbers.{MergeNumbers}
use Rattle.c_merge.proofs.bellbadger_merge.Reads as c_reads
use Rattle.c_merge.proofs.bellbadger_merge.Kinds as c_kinds

abbrev pub AsksMerge : Way → Rule → Rule → Type 0
AsksMerge way one two = merge_reads.Asked tt (way, (one, (two, tt)))

abbrev pub MayMerge : Way → Rule → Rule → Result Rule Refusal → Type 0
MayMerge way one two r =
    (s : AtExit (ended_of 0 merge_kinds.ps merge_kinds.r) tt) × merge_reads.Learnt tt (way, (one, (two, tt))) r s

abbrev pub AsksMergeC : ℕ → Rule → Rule → Type 0
AsksMergeC way one two = c_reads.Asked tt (way, (one, (two, tt)))

abbrev pub MayMergeC : ℕ → Rule → Rule → MergeNumbers → Type 0
MayMergeC way one two r =
    (s : AtExit (ended_of 0 c_kinds.ps c_kinds.r) tt) × c_reads.Learnt tt (way, (one, (two, tt))) r s
