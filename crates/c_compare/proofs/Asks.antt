-- The function that C links asks nothing of its caller: what it asks, as the checker reads its
-- contract (`Reads.Asked`), is met by any arguments whatever. Assumes nothing.
use Rattle.automaton.specs.declared.Rule.{Rule}
use Rattle.c_compare.proofs.bellbadger_compare.Reads as bellbadger_compare

pub compare_asks_nothing : (one two : Rule) → bellbadger_compare.Asked tt (one, (two, tt))
compare_asks_nothing one two = tt
