-- `equal_cells` meets its contract. The loop's invariant: the count is that of the symbols passed. Assumes nothing.
use mathlib.Core.Path.{◌≡◌, refl}
use native.Mathlib.Omega.{arith}
use Rattle.base.specs.Totals.{total}
use mathlib.Core.Logic.{inl, inr}
use Rattle.formmaker.proofs.Turns.{equal_more}
use Rattle.formmaker.proofs.equal_cells.Goals.{else-next-t, then-next-t}
use Rattle.formmaker.proofs.equal_cells.Goals as goal

pub loop-s-init : goal.loop-s-init
unfolding total
loop-s-init c = (omega arith, refl)

pub loop-s-preserved : goal.loop-s-preserved
loop-s-preserved c =
    let l = c.loop-s in
    let a = c.args in
    let r = equal_more a.next.now a.t a.u l.s l.count c.if-next-t.count l.invariant.0 l.invariant.1
    ((elim c.if-next-t.branch [
      | then-next-t x ↦ inl (x.if-next-t.true, x.count-is)
      | else-next-t x ↦ inr (x.if-next-t.false, x.count-is)
    ])) in
    (r.0, r.1)

pub returns : goal.returns
returns c =
    let l = c.loop-s in
    let q : l.s ≡ c.args.k = omega arith in
    rw q at l.invariant.1
