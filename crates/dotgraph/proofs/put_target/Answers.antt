-- `put_target` meets its contract. Assumes nothing.
use mathlib.Core.Path.{◌≡◌, sym, ◌∙◌}
use mathlib.Core.Bool.{true, false}
use Rattle.base.specs.Conditions.{any_below}
use Rattle.text.proofs.Rooms.{nothing}
use Rattle.dotlabels.specs.Labels.{leads}
use Rattle.dotgraph.proofs.put_target.Goals as goal

pub returns-then-any_below : goal.returns-then-any_below
returns-then-any_below c =
    let a = c.args in
    let e : any_below (leads a.targets.now a.k a.q.0 a.t.0) a.k ≡ true = sym c.any_below.ensures ∙ c.if-any_below.true in
    rw e c.put_line.ensures

pub returns-else-any_below : goal.returns-else-any_below
returns-else-any_below c =
    let a = c.args in
    let e : any_below (leads a.targets.now a.k a.q.0 a.t.0) a.k ≡ false = sym c.any_below.ensures ∙ c.if-any_below.false in
    rw e (nothing a.out.now a.at 69)
