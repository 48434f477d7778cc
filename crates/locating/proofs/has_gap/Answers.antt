-- `has_gap` meets its contract: no place passed is empty. Assumes nothing.
use mathlib.Core.Path.{◌≡◌, sym}
use mathlib.Core.Bool.{false}
use native.Mathlib.Omega.{arith}
use borrow.Author.Tests.{eq-eqb, ne_eqb}
use Rattle.base.proofs.Conditions.{any_at, none_yet, none_more}
use Rattle.locating.proofs.has_gap.Goals as goal

pub loop-p-init : goal.loop-p-init
loop-p-init c = (none_yet _)

pub returns-then-filled-p-eq0 : goal.returns-then-filled-p-eq0
returns-then-filled-p-eq0 c =
    let x = c.loop-p in
    sym (any_at _ c.args.places x.p c.loop-p-test.true (eq-eqb _ _ c.if-filled-p-eq0.true))

pub loop-p-preserved : goal.loop-p-preserved
loop-p-preserved c =
    let x = c.loop-p in
    (none_more _ x.p x.invariant (ne_eqb _ _ c.if-filled-p-eq0.false))

pub returns : goal.returns
returns c =
    let x = c.loop-p in
    let e : x.p ≡ c.args.places = omega arith in
    sym (rw (← e) x.invariant)
