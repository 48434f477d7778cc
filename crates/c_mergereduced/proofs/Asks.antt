-- The function that C links asks nothing of its caller: what it asks, as the checker reads its
-- contract (`Reads.Asked`), is met by any arguments whatever. Assumes nothing.
use Prim.Native.Nat.{ℕ}
use Rattle.automaton.specs.declared.Rule.{Rule}
use Rattle.c_mergereduced.proofs.bellbadger_merge_reduced.Reads as bellbadger_merge_reduced

pub merge_reduced_asks_nothing : (way : ℕ) (one two : Rule) → bellbadger_merge_reduced.Asked tt (way, (one, (two, tt)))
merge_reduced_asks_nothing way one two = tt
