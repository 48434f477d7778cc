-- `walk_band` meets its contract: the set after the rows passed, each of which left a live state.
-- Assumes nothing.
use mathlib.Core.Path.{refl}
use Prim.Native.Nat.{◌+◌, ◌≤◌}
use native.Mathlib.Omega.{arith}
use lib.ListN.{length}
use Rattle.trays.specs.Rows.{column_of}
use Rattle.faults.specs.First.{first_found}
use Rattle.faults.proofs.Turns.{row_next, row_fits, set_next, stuck_here, on_here, all_on}
use Rattle.faults.proofs.walk_band.Goals.{In-loop-i}
use Rattle.std.proofs.lemmas.Bool.{not_from_false, not_from_true}
use Rattle.faults.proofs.walk_band.Goals as goal

-- the row that comes is within the cells
fits : (c : In-loop-i) → c.loop-i.at + c.args.width ≤ length c.args.cells.now
fits c =
    let x = c.loop-i in
    let a = c.args in
    row_fits a.width a.rows a.from a.cells.now x.invariant.1 x.i x.at x.invariant.0 c.loop-i-test.true

pub loop-i-init : goal.loop-i-init
unfolding first_found column_of
loop-i-init c = (omega arith, c.requires.0, c.requires.3, refl, refl)

pub overflow_add-at : goal.overflow_add-at
overflow_add-at c = omega (arith, fits c)

pub bounds-cells-at : goal.bounds-cells-at
bounds-cells-at c = omega (arith, fits (goal.at.bounds-cells-at c).In-loop-i)

pub overflow_cast-result : goal.overflow_cast-result
overflow_cast-result c = omega (arith, c.requires)

pub overflow_cast-result-then-not-meets : goal.overflow_cast-result-then-not-meets
overflow_cast-result-then-not-meets c = omega (arith, c.requires)

pub returns-then-not-meets : goal.returns-then-not-meets
returns-then-not-meets c =
    let x = c.loop-i in
    let a = c.args in
    stuck_here a.width a.rows a.from a.cells.now x.invariant.1 a.targets.now a.live a.column a.set a.band x.invariant.2 x.i x.at x.invariant.0
    c.loop-i-test.true x.reached x.invariant.3 _ c.successor-reached.ensures x.invariant.4 _ c.meets.ensures (not_from_false _ c.if-not-meets.true) _

pub overflow_add-at-in-loop-i : goal.overflow_add-at-in-loop-i
overflow_add-at-in-loop-i c = omega (arith, fits (goal.at.overflow_add-at-in-loop-i c).In-loop-i)

pub loop-i-preserved : goal.loop-i-preserved
loop-i-preserved c =
    let x = c.loop-i in
    let a = c.args in (
      row_next a.width a.rows a.from a.cells.now x.invariant.1 x.i x.at x.invariant.0,
      x.invariant.1,
      x.invariant.2,
      set_next a.width a.rows a.from a.cells.now x.invariant.1 a.targets.now a.live a.column a.set a.band x.invariant.2 x.i x.at x.invariant.0
          c.loop-i-test.true x.reached x.invariant.3 _ c.successor-reached.ensures,
      on_here a.width a.rows a.from a.cells.now x.invariant.1 a.targets.now a.live a.column a.set a.band x.invariant.2 x.i x.at x.invariant.0
          c.loop-i-test.true x.reached x.invariant.3 _ c.successor-reached.ensures x.invariant.4 _ c.meets.ensures (not_from_true _ c.if-not-meets.false),
    )

pub returns : goal.returns
returns c =
    let x = c.loop-i in
    let a = c.args in
    all_on a.width a.rows a.from a.cells.now x.invariant.1 a.targets.now a.live a.column a.set a.band x.invariant.2 x.i x.reached (omega arith)
    c.loop-i-test.false x.invariant.4 x.invariant.3
