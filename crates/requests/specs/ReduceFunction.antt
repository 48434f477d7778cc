-- What the functions that reduce a rule ask and allow by their own contracts, as the checker reads
-- them (`Reads`): any result that the contract does not rule out.
--
--   AsksReduce, MayReduce    `reduce`: before it is called on a rule, and what it may return for it
--   AsksReduceC, MayReduceC  `bellbadger_reduce`, which C links: the same
use Rattle.base.specs.declared.Refusal.{Refusal}
use Rattle.reducing.specs.declared.Reduced.{Reduced}
use Rattle.std.specs.Prelude.{Result}
use denote.Triple.Clauses.{AtExit}
use borrow.Fn.Kinds.{ended_of}
use Rattle.automaton.specs.declared.Rule.{Rule}
use Rattle.reduce.proofs.reduce.Reads as reduce_reads
use Rattle.reduce.proofs.reduce.Kinds as reduce_kinds
use Rattle.c_reduce.specs.declared.ReduceNumbers.{ReduceNumbers}
use Rattle.c_reduce.proofs.bellbadger_reduce.Reads as c_reads
use Rattle.c_reduce.proofs.bellbadger_reduce.Kinds as c_kinds

abbrev pub AsksReduce : Rule → Type 0
AsksReduce r = reduce_reads.Asked tt (r, tt)

abbrev pub MayReduce : Rule → Result Reduced Refusal → Type 0
MayReduce r m = (s : AtExit (ended_of 0 reduce_kinds.ps reduce_kinds.r) tt) × reduce_reads.Learnt tt (r, tt) m s

abbrev pub AsksReduceC : Rule → Type 0
AsksReduceC r = c_reads.Asked tt (r, tt)

abbrev pub MayReduceC : Rule → ReduceNumbers → Type 0
MayReduceC r m = (s : AtExit (ended_of 0 c_kinds.ps c_kinds.r) tt) × c_reads.Learnt tt (r, tt) m s
