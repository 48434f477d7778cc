-- `begins_with` meets its contract. The loop's invariant: the text begins with the head exactly
-- when what follows i begins with the rest of the head. Assumes nothing.
use mathlib.Core.Path.{refl, sym, ◌∙◌}
use native.Mathlib.Omega.{arith}
use borrow.Author.Rules.{rules}
use Rattle.lines.proofs.Splits.{begins_not, begins_on, begins_end, begins_short}
use Rattle.lines.proofs.begins_with.Goals as goal

pub returns-then-text-head : goal.returns-then-text-head
returns-then-text-head c = let a = c.args in sym (begins_short a.head.now a.text.now c.if-text-head.true)

pub loop-i-init : goal.loop-i-init
loop-i-init c = (search rules, refl)

pub returns-then-text-i : goal.returns-then-text-i
returns-then-text-i c =
    let a = c.args in
    let l = c.loop-i in
    let here = c.loop-i-test.true in
    sym (l.invariant.1 ∙ begins_not a.head.now a.text.now l.i here (omega (arith, l.invariant.0, here)) c.if-text-i.true)

pub loop-i-preserved : goal.loop-i-preserved
loop-i-preserved c =
    let a = c.args in
    let l = c.loop-i in
    let here = c.loop-i-test.true in
    (l.invariant.0, l.invariant.1 ∙ begins_on a.head.now a.text.now l.i here (omega (arith, l.invariant.0, here)) c.if-text-i.false)

pub returns : goal.returns
returns c =
    let a = c.args in
    let l = c.loop-i in
    sym (l.invariant.1 ∙ begins_end a.head.now a.text.now l.i c.loop-i-test.false)
