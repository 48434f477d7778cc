-- The functions that C links ask nothing of their caller: what they ask, as the checker reads their
-- contracts (`Reads.Asked`), is met by any arguments whatever. Assumes nothing.
use mathlib.Core.List.{List}
use Prim.Native.Nat.{ℕ}
use contract.Lifetimes.{Lfts}
use denote.Ref.{Bor}
use Rattle.calls.specs.declared.Judge.{Judge}
use Rattle.summaries.specs.declared.Summary.{Summary}
use Rattle.c_summaries.proofs.bellbadger_summarize.Reads as summarize
use Rattle.c_summaries.proofs.bellbadger_summary_combine.Reads as combine
use Rattle.c_summaries.proofs.bellbadger_summary_conclude.Reads as conclude

pub summarize_asks_nothing : (κs : Lfts 1) (j : Judge) (number : ℕ) (c : Bor (List ℕ)) → summarize.Asked κs (j, (number, (c, tt)))
summarize_asks_nothing κs j number c = tt

pub combine_asks_nothing : (a b : Summary) → combine.Asked tt (a, (b, tt))
combine_asks_nothing a b = tt

pub conclude_asks_nothing : (j : Judge) (a : Summary) (chunks : ℕ) → conclude.Asked tt (j, (a, (chunks, tt)))
conclude_asks_nothing j a chunks = tt
