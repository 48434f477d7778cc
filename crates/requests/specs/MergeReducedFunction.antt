-- What the functions that merge two rules reduced ask and allow by their own contracts, as the
-- checker reads them (`Reads`): any result that the contract does not rule out.
--
--   AsksMergeReduced, MayMergeReduced    `merge_reduced`: before it is called on a way and two
--                                        rules, and what it may return for them
--   AsksMergeReducedC, MayMergeReducedC  `bellbadger_merge_reduced`, which C links: the same, the
--                                        way being a number
use Rattle.base.specs.declared.Refusal.{Refusal}
use Rattle.std.specs.Prelude.{Result, ℕ}
use denote.Triple.Clauses.{AtExit}
use borrow.Fn.Kinds.{ended_of}
use Rattle.automaton.specs.declared.Rule.{Rule}
use Rattle.merging.specs.declared.Way.{Way}
use Rattle.mergereduced.proofs.merge_reduced.Reads as merge_reads
use Rattle.mergereduced.proofs.merge_reduced.Kinds as merge_kinds
use Rattle.c_merge.specs.declared.MergeNumbers.{MergeNumbers}
use Rattle.c_mergereduced.proofs.bellbadger_merge_reduced.Reads as c_reads
use Rattle.c_mergereduced.proofs.bellbadger_merge_reduced.Kinds as c_kinds

abbrev pub AsksMergeReduced : Way → Rule → Rule → Type 0
AsksMergeReduced way one two = merge_reads.Asked tt (way, (one, (two, tt)))

abbrev pub MayMergeReduced : Way → Rule → Rule → Result Rule Refusal → Type 0
MayMergeReduced way one two r =
    (s : AtExit (ended_of 0 merge_kinds.ps merge_kinds.r) tt) × merge_reads.Learnt tt (way, (one, (two, tt))) r s

abbrev pub AsksMergeReducedC : ℕ → Rule → Rule → Type 0
AsksMergeReducedC way one two = c_reads.Asked tt (way, (one, (two, tt)))

abbrev pub MayMergeReducedC : ℕ → Rule → Rule → MergeNumbers → Type 0
MayMergeReducedC way one two r =
    (s : AtExit (ended_of 0 c_kinds.ps c_kinds.r) tt) × c_reads.Learnt tt (way, (one, (two, tt))) r s
