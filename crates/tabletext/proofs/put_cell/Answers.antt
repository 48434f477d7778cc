-- `put_cell` meets its contract. Assumes nothing.
use borrow.Author.Tests.{eq-eqb, ne_eqb}
use Rattle.tabletext.proofs.put_cell.Goals as goal

pub returns-then-c-eq0 : goal.returns-then-c-eq0
returns-then-c-eq0 c =
    rw (eq-eqb c.args.c 0 c.if-c-eq0.true) c.put_first.ensures

pub returns-else-c-eq0 : goal.returns-else-c-eq0
returns-else-c-eq0 c =
    rw (ne_eqb c.args.c 0 c.if-c-eq0.false) c.put_cell.ensures
