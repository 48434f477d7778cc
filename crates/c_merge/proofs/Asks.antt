-- The function that C links asks nothing of its caller: what it asks, as the checker reads its
-- contract (`Reads.Asked`), is met by any arguments whatever. Assumes nothing.
use Prim.Native.Nat.{ℕ}
use Rattle.automaton.specs.declared.Rule.{Rule}
use Rattle.c_merge.proofs.bellbadger_merge.Reads as bellbadger_merge

pub merge_asks_nothing : (way : ℕ) (one two : Rule) → bellbadger_merge.Asked tt (way, (one, (two, tt)))
merge_asks_nothing way one two = tt
