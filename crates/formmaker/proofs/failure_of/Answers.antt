-- `failure_of` meets its contract. Assumes nothing.
use mathlib.Core.Path.{◌≡◌, refl}
use mathlib.Core.Logic.{inl, inr}
use native.Mathlib.Omega.{arith}
use Rattle.forms.specs.Form.{best_below}
use Rattle.formmaker.proofs.Turns.{best_more}
use Rattle.formmaker.proofs.failure_of.Goals.{else-most-equal, then-most-equal}
use Rattle.formmaker.proofs.failure_of.Goals as goal

pub loop-u-init : goal.loop-u-init
unfolding best_below
loop-u-init c = (omega arith, refl, c.equal_cells-most.ensures)

pub loop-u-preserved : goal.loop-u-preserved
loop-u-preserved c =
    let l = c.loop-u in
    let a = c.args in
    let e = c.equal_cells-equal in
    let r = best_more a.next.now a.k a.t l.u l.best l.most c.if-most-equal.best c.if-most-equal.most e.result l.invariant.0 l.invariant.1 l.invariant.2 e.ensures
    ((elim c.if-most-equal.branch [
      | then-most-equal x ↦ inl (omega (arith, x.if-most-equal.true), x.best-is, x.most-is)
      | else-most-equal x ↦ inr (omega (arith, x.if-most-equal.false), x.best-is, x.most-is)
    ])) in
    (r.0, r.1, r.2)

pub returns : goal.returns
returns c =
    let l = c.loop-u in
    let q : l.u ≡ c.args.t = omega arith in
    (omega arith, rw q at l.invariant.1)
