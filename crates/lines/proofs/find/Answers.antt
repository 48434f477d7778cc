-- `find` meets its contract. The loop's invariant: the first such byte from `from` on is the first
-- from i on. Assumes nothing.
use mathlib.Core.Path.{refl, ◌∙◌}
use native.Mathlib.Omega.{arith}
use Rattle.lines.proofs.Splits.{up_here, up_on, up_end}
use Rattle.lines.proofs.find.Goals as goal

pub loop-i-init : goal.loop-i-init
loop-i-init c = (omega arith, refl)

pub returns-then-text-i : goal.returns-then-text-i
returns-then-text-i c =
    let a = c.args in
    let l = c.loop-i in
    omega (arith, l.invariant.1, up_here a.c a.text.now l.i c.loop-i-test.true c.if-text-i.true)

pub loop-i-preserved : goal.loop-i-preserved
loop-i-preserved c =
    let a = c.args in
    let l = c.loop-i in
    (omega arith, l.invariant.1 ∙ up_on a.c a.text.now l.i c.loop-i-test.true c.if-text-i.false)

pub returns : goal.returns
returns c =
    let a = c.args in
    let l = c.loop-i in
    omega (arith, l.invariant.1, up_end a.c a.text.now l.i c.loop-i-test.false)
