-- `put_piece` meets its contract. Assumes nothing.
use mathlib.Core.Path.{sym, ◌∙◌}
use Rattle.text.proofs.Rooms.{nothing}
use Rattle.dotlabels.specs.Labels.{leads}
use Rattle.dotlabels.proofs.Labels.{outside, first, within, last}
use Rattle.dotlabels.proofs.put_piece.Goals as goal

pub returns-then-leads-2 : goal.returns-then-leads-2
returns-then-leads-2 c =
    let a = c.args in
    let e =
    within (leads a.targets.now a.k a.q.0 a.t.0) a.s
    (sym c.leads.ensures ∙ c.if-leads.true)
    (sym c.earlier.ensures ∙ c.if-earlier.true)
    (sym c.leads-then-earlier.ensures ∙ c.if-leads-2.true) in
    rw e (nothing a.out.now a.at 3)

pub returns-else-leads-2 : goal.returns-else-leads-2
returns-else-leads-2 c =
    let a = c.args in
    let e =
    last (leads a.targets.now a.k a.q.0 a.t.0) a.s
    (sym c.leads.ensures ∙ c.if-leads.true)
    (sym c.earlier.ensures ∙ c.if-earlier.true)
    (sym c.leads-then-earlier.ensures ∙ c.if-leads-2.false) in
    rw e (rw c.earlier-else-leads-2.ensures at c.put_last.ensures)

pub returns-else-earlier : goal.returns-else-earlier
returns-else-earlier c =
    let a = c.args in
    let e =
    first (leads a.targets.now a.k a.q.0 a.t.0) a.s
    (sym c.leads.ensures ∙ c.if-leads.true)
    (sym c.earlier.ensures ∙ c.if-earlier.false) in
    rw e (rw c.any_below.ensures at c.put_first.ensures)

pub returns-else-leads : goal.returns-else-leads
returns-else-leads c =
    let a = c.args in
    let e = outside (leads a.targets.now a.k a.q.0 a.t.0) a.s (sym c.leads.ensures ∙ c.if-leads.false) in
    rw e (nothing a.out.now a.at 3)
