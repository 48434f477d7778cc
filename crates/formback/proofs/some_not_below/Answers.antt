-- `some_not_below` meets its contract. The loop's invariant: no set passed has such a failure set. Assumes nothing.
use native.Mathlib.Omega.{arith}
use Rattle.forms.specs.Back.{not_below}
use Rattle.formback.proofs.Turns.{passed_none, passed_more, passed_all, found}
use Rattle.formback.proofs.some_not_below.Goals as goal

pub loop-t-init : goal.loop-t-init
loop-t-init c = let a = c.args in passed_none (not_below a.failure.now) a.sets

pub returns-then-not_below : goal.returns-then-not_below
returns-then-not_below c =
    let a = c.args in
    found (not_below a.failure.now) a.sets c.loop-t.t c.not_below.result (omega arith) c.not_below.ensures c.if-not_below.true

pub loop-t-preserved : goal.loop-t-preserved
loop-t-preserved c =
    let a = c.args in
    passed_more (not_below a.failure.now) a.sets c.loop-t.t c.not_below.result (omega arith) c.not_below.ensures c.if-not_below.false c.loop-t.invariant

pub returns : goal.returns
returns c =
    let a = c.args in
    passed_all (not_below a.failure.now) a.sets c.loop-t.t (omega arith) c.loop-t.invariant
