-- `band_passes` meets its contract: the rows that are left pass exactly when all do. Assumes nothing.
use mathlib.Core.Path.{◌≡◌, refl, sym, ◌∙◌}
use Prim.Native.Nat.{◌+◌, ◌-◌, ◌*◌, ◌≤◌}
use native.Mathlib.Omega.{arith}
use lib.ListN.{length, drop}
use Rattle.trayverdict.proofs.Walks.{room_step, row_fails, row_passes, rows_done}
use Rattle.trayverdict.proofs.band_passes.Goals.{In-loop}
use Rattle.trayverdict.proofs.band_passes.Goals as goal

-- a row is left, and behind it room for the others
row_fits : (c : In-loop)
    → (c.loop.at + c.args.width ≤ length c.args.cells.now)
    × (c.loop.at + c.args.width + (c.args.rows - (c.loop.counter + 1)) * c.args.width
    ≤ length c.args.cells.now)
row_fits c =
    let x = c.loop in
    let a = c.args in
    let less : a.rows - (x.counter + 1) ≡ a.rows - x.counter - 1 = omega arith in
    rw less (room_step x.at (a.rows - x.counter) a.width (length a.cells.now) (λ e. omega arith) x.invariant.0)

pub loop-init : goal.loop-init
loop-init c = let all : c.args.rows - 0 ≡ c.args.rows = omega arith in (rw all (omega arith), rw all refl)

pub overflow_add-end : goal.overflow_add-end
overflow_add-end c = omega (arith, (row_fits c).0)

pub slice_bounds-set_after-end : goal.slice_bounds-set_after-end
slice_bounds-set_after-end c = omega (arith, (row_fits (goal.at.slice_bounds-set_after-end c).In-loop).0)

pub returns-then-not-meets : goal.returns-then-not-meets
returns-then-not-meets c =
    let x = c.loop in
    let a = c.args in
    sym (x.invariant.1
    ∙ row_fails a.rule a.width (a.rows - x.counter) x.at a.cells.now (λ e. omega arith) _ c.set_after-set.ensures
    _ c.meets.ensures (c.if-not-meets.true))

pub loop-preserved : goal.loop-preserved
loop-preserved c =
    let x = c.loop in
    let a = c.args in
    let less : a.rows - (x.counter + 1) ≡ a.rows - x.counter - 1 = omega arith in (
      (row_fits (goal.at.loop-preserved c).In-loop).1,
      rw less (x.invariant.1
          ∙ row_passes a.rule a.width (a.rows - x.counter) x.at a.cells.now (λ e. omega arith) _ c.set_after-set.ensures
          _ c.meets.ensures (c.if-not-meets.false)),
    )

pub returns : goal.returns
returns c =
    let x = c.loop in
    let a = c.args in
    sym (x.invariant.1 ∙ rows_done a.rule a.width (a.rows - x.counter) (drop x.at a.cells.now) (omega arith))
