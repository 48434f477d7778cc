-- `chosen_cell` meets its contract. Assumes nothing.
use mathlib.Core.Path.{refl, sym, ◌∙◌}
use lib.ListN.{get_or}
use Rattle.reduce.proofs.Ways.{cell_live, cell_dead, cell_off}
use Rattle.reduce.proofs.chosen_cell.Goals as goal

pub returns-then-d-lt-NO_DELEGATE : goal.returns-then-d-lt-NO_DELEGATE
returns-then-d-lt-NO_DELEGATE c =
    let a = c.args in
    cell_live a.delegates.now a.reached a.q.0 (get_or a.delegates.now a.q.0 0) refl
    (sym c.member.ensures ∙ c.if-member.true)
    c.if-d-lt-NO_DELEGATE.true
    c.lowest.result
    c.lowest.ensures

pub returns-else-d-lt-NO_DELEGATE : goal.returns-else-d-lt-NO_DELEGATE
returns-else-d-lt-NO_DELEGATE c =
    let a = c.args in
    cell_dead a.delegates.now a.reached a.q.0 (get_or a.delegates.now a.q.0 0) refl
    (sym c.member.ensures ∙ c.if-member.true)
    c.if-d-lt-NO_DELEGATE.false

pub returns-else-member : goal.returns-else-member
returns-else-member c =
    let a = c.args in
    cell_off a.delegates.now a.reached a.q.0 (sym c.member.ensures ∙ c.if-member.false)
