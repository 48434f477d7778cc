-- `before_empty` meets its contract: the bands passed stand. Assumes nothing.
use mathlib.Core.Path.{◌≡◌, refl}
use native.Mathlib.Omega.{arith}
use Rattle.faults.specs.First.{first_found}
use Rattle.faults.proofs.Ways.{found_empty, past_full, none_empty}
use Rattle.faults.proofs.before_empty.Goals as goal

pub loop-p-init : goal.loop-p-init
unfolding first_found
loop-p-init c = (omega arith, refl)

pub returns-then-filled-p-eq0 : goal.returns-then-filled-p-eq0
returns-then-filled-p-eq0 c =
    let x = c.loop-p in
    let a = c.args in
    (found_empty a.filled.now a.bands x.p c.loop-p-test.true x.invariant.1 c.if-filled-p-eq0.true, omega arith)

pub loop-p-preserved : goal.loop-p-preserved
loop-p-preserved c =
    let x = c.loop-p in
    let a = c.args in
    (x.invariant.0, past_full a.filled.now a.bands x.p x.invariant.1 c.if-filled-p-eq0.false)

pub returns : goal.returns
returns c =
    let x = c.loop-p in
    let a = c.args in
    let e : x.p ≡ a.bands = omega arith in
    (rw e at (none_empty a.filled.now a.bands x.p (omega arith) c.loop-p-test.false x.invariant.1), omega arith)
