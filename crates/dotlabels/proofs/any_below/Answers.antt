-- `any_below` meets its contract. The loop's invariant: no symbol passed leads. Assumes nothing.
use mathlib.Core.Path.{◌≡◌, sym, ◌∙◌}
use mathlib.Core.Bool.{false}
use native.Mathlib.Omega.{arith}
use Rattle.base.proofs.Conditions.{any_at, none_yet, none_more}
use Rattle.dotlabels.specs.Labels.{leads}
use Rattle.dotlabels.proofs.any_below.Goals as goal

pub loop-s-init : goal.loop-s-init
loop-s-init c = let a = c.args in
    none_yet (leads a.targets.now a.k a.q.0 a.t.0)

pub leads-requires : goal.leads-requires
leads-requires c = c.requires

pub returns-then-leads : goal.returns-then-leads
returns-then-leads c =
    let a = c.args in
    sym (any_at (leads a.targets.now a.k a.q.0 a.t.0) a.end c.loop-s.s c.loop-s-test.true (sym c.leads.ensures ∙ c.if-leads.true))

pub loop-s-preserved : goal.loop-s-preserved
loop-s-preserved c =
    let a = c.args in
    let x = c.loop-s in
    none_more (leads a.targets.now a.k a.q.0 a.t.0) x.s x.invariant (sym c.leads.ensures ∙ c.if-leads.false)

pub returns : goal.returns
returns c =
    let x = c.loop-s in
    let e : x.s ≡ c.args.end = omega arith in
    sym (rw e at x.invariant)
