-- `delegate_cell` meets its contract. Assumes nothing.
use borrow.Author.Tests.{eq-eqb, ne_eqb}
use Rattle.delegates.specs.mirror.Refinement.{class_of, cell_in}
use Rattle.delegates.proofs.delegate_cell.Goals as goal

pub returns-then-own-i : goal.returns-then-own-i
unfolding cell_in
returns-then-own-i c =
    let a = c.args in
    rw (eq-eqb (class_of a.own.now a.q.0) a.empty c.if-own-i.true)

pub returns : goal.returns
unfolding cell_in
returns c =
    let a = c.args in
    rw (ne_eqb (class_of a.own.now a.q.0) a.empty c.if-own-i.false) c.lowest-delegate.ensures
