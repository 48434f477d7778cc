-- `fresh` meets its contract: no number passed is in the set and not done. Assumes nothing.
use mathlib.Core.Path.{◌≡◌, sym, ap, ◌∙◌}
use Prim.Native.Nat.{◌-◌, ◌<◌}
use native.Mathlib.Omega.{arith}
use Rattle.delegates.specs.mirror.Classes.{first_from}
use Rattle.delegates.proofs.Tests.{first_here, first_past, first_end}
use Rattle.mergereduced.specs.mirror.Asked.{set_in, fresh_in}
use Rattle.mergereduced.proofs.Cells.{cell_in, cell_out}
use Rattle.mergereduced.proofs.Ways.{fresh_here, fresh_out, fresh_done}
use Rattle.mergereduced.proofs.fresh.Goals.{else-set-q-eq1, then-set-q-eq1+else-done-q-ne1}
use Rattle.mergereduced.proofs.fresh.Goals as goal

pub loop-q-init : goal.loop-q-init
loop-q-init c =
    let a = c.args in
    let all : a.n ≡ a.n - 0 = omega arith in
    ap (first_from (fresh_in (set_in a.set.now) (set_in a.done.now)) 0) all

pub returns-then-done-q-ne1 : goal.returns-then-done-q-ne1
returns-then-done-q-ne1 c =
    let l = c.loop-q in
    let a = c.args in
    let h : l.q < 1024 = omega (arith, c.loop-q-test.true, c.requires) in
    first_here (fresh_in (set_in a.set.now) (set_in a.done.now)) l.q a.n c.loop-q-test.true
    (fresh_here (set_in a.set.now) (set_in a.done.now) l.q (cell_in a.set.now l.q h c.if-set-q-eq1.true) (cell_out a.done.now l.q h c.if-done-q-ne1.true))
    ∙ sym l.invariant

pub loop-q-preserved : goal.loop-q-preserved
loop-q-preserved c =
    let l = c.loop-q in
    let a = c.args in
    let h : l.q < 1024 = omega (arith, c.loop-q-test.true, c.requires) in
    l.invariant
    ∙ first_past (fresh_in (set_in a.set.now) (set_in a.done.now)) l.q a.n c.loop-q-test.true
    ((elim c.if-set-q-eq1.branch [
      | then-set-q-eq1+else-done-q-ne1 w ↦ fresh_done (set_in a.set.now) (set_in a.done.now) l.q (cell_in a.done.now l.q h w.if-done-q-ne1.false)
      | else-set-q-eq1 w ↦ fresh_out (set_in a.set.now) (set_in a.done.now) l.q (cell_out a.set.now l.q h w.if-set-q-eq1.false)
    ]))

pub returns : goal.returns
returns c =
    let l = c.loop-q in
    let a = c.args in
    let e : a.n ≡ l.q = omega arith in
    e ∙ first_end (fresh_in (set_in a.set.now) (set_in a.done.now)) l.q a.n c.loop-q-test.false ∙ sym l.invariant
