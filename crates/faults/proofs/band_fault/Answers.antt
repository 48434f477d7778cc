-- `band_fault` meets its contract: the rows passed are accepted. Assumes nothing.
use mathlib.Core.Path.{refl}
use Prim.Native.Nat.{◌+◌, ◌≤◌}
use native.Mathlib.Omega.{arith}
use lib.ListN.{length}
use Rattle.faults.specs.First.{first_found}
use Rattle.faults.proofs.Turns.{row_next, row_fits, wrong, right, all_right}
use Rattle.faults.proofs.band_fault.Goals.{In-loop-i}
use Rattle.std.proofs.lemmas.Bool.{not_from_false, not_from_true}
use Rattle.faults.proofs.band_fault.Goals as goal

-- the row that comes is within the cells
fits : (c : In-loop-i) → c.loop-i.at + c.args.width ≤ length c.args.cells.now
fits c =
    let x = c.loop-i in
    let a = c.args in
    row_fits a.width a.rows a.from a.cells.now x.invariant.1 x.i x.at x.invariant.0 c.loop-i-test.true

pub loop-i-init : goal.loop-i-init
unfolding first_found
loop-i-init c = (omega arith, c.requires.0, refl)

pub overflow_add-end : goal.overflow_add-end
overflow_add-end c = omega (arith, fits c)

pub slice_bounds-set_after-end : goal.slice_bounds-set_after-end
slice_bounds-set_after-end c = omega (arith, fits (goal.at.slice_bounds-set_after-end c).In-loop-i)

pub overflow_cast-result : goal.overflow_cast-result
overflow_cast-result c = omega (arith, c.requires.1)

pub returns-then-not-meets : goal.returns-then-not-meets
returns-then-not-meets c =
    let x = c.loop-i in
    let a = c.args in
    wrong a.width a.rows a.from a.cells.now x.invariant.1 a.rule a.band x.i x.at x.invariant.0 c.loop-i-test.true x.invariant.2
    _ c.set_after-set.ensures _ c.meets.ensures (not_from_false _ c.if-not-meets.true)

pub loop-i-preserved : goal.loop-i-preserved
loop-i-preserved c =
    let x = c.loop-i in
    let a = c.args in (
      row_next a.width a.rows a.from a.cells.now x.invariant.1 x.i x.at x.invariant.0,
      x.invariant.1,
      right a.width a.rows a.from a.cells.now x.invariant.1 a.rule a.band x.i x.at x.invariant.0 c.loop-i-test.true x.invariant.2
          _ c.set_after-set.ensures _ c.meets.ensures (not_from_true _ c.if-not-meets.false),
    )

pub returns : goal.returns
returns c =
    let x = c.loop-i in
    let a = c.args in
    all_right a.width a.rows a.from a.cells.now x.invariant.1 a.rule a.band x.i (omega arith) c.loop-i-test.false x.invariant.2
