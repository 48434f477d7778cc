-- `some_left` meets its contract: every end set passed is empty. Assumes nothing.
use mathlib.Core.Path.{◌≡◌, sym}
use mathlib.Core.Bool.{false}
use native.Mathlib.Omega.{arith}
use borrow.Author.Tests.{lt-ltb, le-ltb}
use Rattle.base.proofs.Conditions.{any_at, none_yet, none_more}
use Rattle.locating.proofs.some_left.Goals as goal

pub loop-end-init : goal.loop-end-init
loop-end-init c = (none_yet _)

pub returns-then-end-gt0 : goal.returns-then-end-gt0
returns-then-end-gt0 c =
    let x = c.loop-end in
    sym (any_at _ 32 x.end-index c.loop-end-test.true (lt-ltb _ _ c.if-end-gt0.true))

pub loop-end-preserved : goal.loop-end-preserved
loop-end-preserved c =
    let x = c.loop-end in
    (none_more _ x.end-index x.invariant (le-ltb _ _ c.if-end-gt0.false))

pub returns : goal.returns
returns c =
    let x = c.loop-end in
    let e : x.end-index ≡ 32 = omega arith in
    sym (rw (← e) x.invariant)
