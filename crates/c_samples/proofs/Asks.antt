-- The function that C links asks nothing of its caller: what it asks, as the checker reads its
-- contract (`Reads.Asked`), is met by any arguments whatever. Assumes nothing.
use Prim.Native.Nat.{ℕ}
use Rattle.automaton.specs.declared.Rule.{Rule}
use Rattle.c_samples.proofs.bellbadger_sample.Reads as bellbadger_sample

pub sample_asks_nothing : (wish : ℕ) (rule : Rule) → bellbadger_sample.Asked tt (wish, (rule, tt))
sample_asks_nothing wish rule = tt
