-- The function that C links asks nothing of its caller: what it asks, as the checker reads its
-- contract (`Reads.Asked`), is met by any argument whatever. Assumes nothing.
use Rattle.automaton.specs.declared.Rule.{Rule}
use Rattle.c_reduce.proofs.bellbadger_reduce.Reads as bellbadger_reduce

pub reduce_asks_nothing : (r : Rule) → bellbadger_reduce.Asked tt (r, tt)
reduce_asks_nothing r = tt
