-- `bad_targets` meets its contract. The loop's invariant: no cell passed is bad. Assumes nothing.
use mathlib.Core.Bool.{Bool, true, false}
use mathlib.Core.List.{List}
use mathlib.Core.Path.{◌≡◌, sym, ◌∙◌}
use Prim.Native.Nat.{ℕ, ◌+◌, ◌<◌}
use native.Mathlib.Omega.{arith}
use Rattle.base.specs.Conditions.{any_below}
use Rattle.base.proofs.Conditions.{none_yet, none_more, any_at}
use Rattle.rulecheck.specs.Checking.{bad_cell, bad_targets}
use Rattle.rulecheck.proofs.bad_targets.Goals as goal

bad-at : (n k cell : ℕ) (ts : List ℕ) {t : Bool} → cell < 512 → t ≡ bad_cell n k ts cell → t ≡ true
    → bad_targets n k ts ≡ true
unfolding bad_targets
bad-at n k cell ts h e f = any_at (bad_cell n k ts) 512 cell h (sym e ∙ f)

none-more-bad : (n k cell : ℕ) (ts : List ℕ) {t : Bool} → any_below (bad_cell n k ts) cell ≡ false
    → t ≡ bad_cell n k ts cell → t ≡ false
    → any_below (bad_cell n k ts) (cell + 1) ≡ false
none-more-bad n k cell ts before e f = none_more (bad_cell n k ts) cell before (sym e ∙ f)

none-bad : (n k : ℕ) (ts : List ℕ) → any_below (bad_cell n k ts) 512 ≡ false
    → bad_targets n k ts ≡ false
unfolding bad_targets
none-bad n k ts e = e

pub loop-cell-init : goal.loop-cell-init
loop-cell-init c =
    none_yet (bad_cell c.args.n c.args.k c.args.targets.now)

pub bad_target-requires : goal.bad_target-requires
bad_target-requires c = tt

pub returns-then-bad_target : goal.returns-then-bad_target
returns-then-bad_target c =
    let a = c.args in
    let x = c.loop-cell in
    sym (bad-at a.n a.k x.cell a.targets.now (omega arith)
    c.bad_target.ensures c.if-bad_target.true)

pub loop-cell-preserved : goal.loop-cell-preserved
loop-cell-preserved c =
    let a = c.args in
    let x = c.loop-cell in
    none-more-bad a.n a.k x.cell a.targets.now x.invariant
    c.bad_target.ensures c.if-bad_target.false

pub returns : goal.returns
returns c =
    let a = c.args in
    let x = c.loop-cell in
    let e : x.cell ≡ 512 = omega arith in
    sym (none-bad a.n a.k a.targets.now (rw e at x.invariant))
