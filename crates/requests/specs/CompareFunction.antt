-- What the functions that compare two rules ask and allow by their own contracts, as the checker reads
-- them (`Reads`): any result that the contract does not rule out.
--
--   AsksCompare, MayCompare    `compare`: before it is called on two rules, and what it may return for
--                              them
--   AsksCompareC, MayCompareC  `bellbadger_compare`, which C links: the same
use Rattle.base.specs.declared.Refusal.{Refusal}
use Rattle.compare.specs.declared.Apart.{Apart}
use Rattle.std.specs.Prelude as code
use Rattle.std.specs.Prelude.{Result}
use denote.Triple.Clauses.{AtExit}
use borrow.Fn.Kinds.{ended_of}
use Rattle.automaton.specs.declared.Rule.{Rule}
use Rattle.compare.proofs.compare.Reads as compare_reads
use Rattle.compare.proofs.compare.Kinds as compare_kinds
use Rattle.c_compare.specs.declared.CompareNumbers.{CompareNumbers}
use Rattle.c_compare.proofs.bellbadger_compare.Reads as c_reads
use Rattle.c_compare.proofs.bellbadger_compare.Kinds as c_kinds

abbrev pub AsksCompare : Rule → Rule → Type 0
AsksCompare one two = compare_reads.Asked tt (one, (two, tt))

abbrev pub MayCompare : Rule → Rule → Result (code.Option Apart) Refusal → Type 0
MayCompare one two r =
    (e : AtExit (ended_of 0 compare_kinds.ps compare_kinds.r) tt) × compare_reads.Learnt tt (one, (two, tt)) r e

abbrev pub AsksCompareC : Rule → Rule → Type 0
AsksCompareC one two = c_reads.Asked tt (one, (two, tt))

abbrev pub MayCompareC : Rule → Rule → CompareNumbers → Type 0
MayCompareC one two r = (e : AtExit (ended_of 0 c_kinds.ps c_kinds.r) tt) × c_reads.Learnt tt (one, (two, tt)) r e
