-- `count_of` meets its contract: i is what was counted, and the rest is counted from where the run
-- stands. Assumes nothing.
use mathlib.Core.Path.{◌≡◌, ap}
use Prim.Native.Nat.{◌+◌, ◌≤◌, ◌<◌}
use native.Mathlib.Omega.{arith}
use lib.ListN.{get_or, drop}
use Rattle.walks.proofs.Steps.{count_on, count_off, count_left}
use Rattle.lanes.specs.mirror.Offsets.{hop_of, row_count}
use Rattle.lanes.proofs.Offsets.{hop_low, hop_stays}
use Rattle.blocks.proofs.count_of.Goals as goal

pub loop-i-init : goal.loop-i-init
loop-i-init c = (c.requires.1, omega arith)

pub overflow_add-symbol : goal.overflow_add-symbol
overflow_add-symbol c = omega (arith, c.loop-i.invariant.0)

pub bounds-t-symbol : goal.bounds-t-symbol
bounds-t-symbol c = omega (arith, c.loop-i.invariant.0, c.requires.0.size)

pub returns-then-row-ge-EMPTY_ROW : goal.returns-then-row-ge-EMPTY_ROW
returns-then-row-ge-EMPTY_ROW c =
    let l = c.loop-i in
    let t = c.args.t.now in
    let w = c.args.part.now in
    let off : 8192 ≤ hop_of t l.row (get_or w l.i 0) = rw c.offset-row.ensures at c.if-row-ge-EMPTY_ROW.true in
    omega (arith, l.invariant.1, count_off (hop_of t) 8192 (hop_low t c.requires.0) (hop_stays t c.requires.0) l.row l.i w (omega arith) off)

pub loop-i-preserved : goal.loop-i-preserved
loop-i-preserved c =
    let l = c.loop-i in
    let t = c.args.t.now in
    let w = c.args.part.now in
    let row = c.offset-row.result in
    let step : row ≡ hop_of t l.row (get_or w l.i 0) = c.offset-row.ensures in
    let on : hop_of t l.row (get_or w l.i 0) < 8192 = rw step at c.if-row-ge-EMPTY_ROW.false in
    let left = ap (row_count t (drop (l.i + 1) w)) step in (
      rw step (hop_low t c.requires.0 l.row (get_or w l.i 0)),
      omega (arith, l.invariant.1, count_on (hop_of t) 8192 l.row l.i w (omega arith) on),
    )

pub returns : goal.returns
returns c =
    let l = c.loop-i in
    let t = c.args.t.now in
    let w = c.args.part.now in
    omega (arith, l.invariant.1, count_left (hop_of t) 8192 l.row l.i w c.loop-i-test.false)
