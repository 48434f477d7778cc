-- `shown` meets its contract. Assumes nothing.
use Rattle.c_summaries.proofs.shown.Goals as goal

pub returns : goal.returns
returns c = rw (c.kind_of.ensures, c.number_of.ensures)
