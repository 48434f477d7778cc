-- `column_after` meets its contract: what is reached after the rows that are left is what all rows
-- reach. Assumes nothing.
use mathlib.Core.Path.{◌≡◌, refl, sym, ap, ◌∙◌}
use Prim.Native.Nat.{ℕ, ◌+◌, ◌-◌, ◌*◌, ◌≤◌}
use native.Mathlib.Omega.{arith}
use lib.ListN.{length, drop}
use Rattle.automaton.specs.Successor.{after}
use Rattle.trays.specs.Rows.{rows_of, column_of}
use Rattle.trayverdict.proofs.Walks.{room_step, event_step, column_done}
use Rattle.trayverdict.proofs.column_after.Goals.{In-loop}
use Rattle.trayverdict.proofs.column_after.Goals as goal

-- a row is left, and behind it room for the others
row_fits : (c : In-loop)
    → (c.loop.at + c.args.width ≤ length c.args.cells.now)
    × (c.loop.at + c.args.width + (c.args.rows - (c.loop.counter + 1)) * c.args.width
    ≤ length c.args.cells.now)
row_fits c =
    let x = c.loop in
    let a = c.args in
    let less : a.rows - (x.counter + 1) ≡ a.rows - x.counter - 1 = omega arith in
    rw less (room_step x.at (a.rows - x.counter) a.width (length a.cells.now) (λ e. omega arith) x.invariant.0)

pub loop-init : goal.loop-init
loop-init c = let all : c.args.rows - 0 ≡ c.args.rows = omega arith in (rw all (omega arith), omega arith, rw all refl)

pub overflow_add-at : goal.overflow_add-at
overflow_add-at c = omega (arith, (row_fits c).0)

pub bounds-cells-at : goal.bounds-cells-at
bounds-cells-at c = omega (arith, (row_fits (goal.at.bounds-cells-at c).In-loop).0)

pub overflow_add-at-in-loop : goal.overflow_add-at-in-loop
overflow_add-at-in-loop c = omega (arith, (row_fits (goal.at.overflow_add-at-in-loop c).In-loop).0)

pub loop-preserved : goal.loop-preserved
loop-preserved c =
    let x = c.loop in
    let a = c.args in
    let less : a.rows - (x.counter + 1) ≡ a.rows - x.counter - 1 = omega arith in (
      (row_fits (goal.at.loop-preserved c).In-loop).1,
      x.invariant.1,
      rw less (x.invariant.2
          ∙ event_step a.targets.now x.reached a.width (a.rows - x.counter) x.at a.column a.cells.now (λ e. omega arith) x.invariant.1
          ∙ ap (λ (m : ℕ). after a.targets.now m (column_of a.column (rows_of a.width (a.rows - x.counter - 1) (drop (x.at + a.width) a.cells.now))))
          (sym c.successor-reached.ensures)),
    )

pub returns : goal.returns
returns c =
    let x = c.loop in
    let a = c.args in
    sym (x.invariant.2 ∙ column_done a.targets.now x.reached a.width (a.rows - x.counter) a.column (drop x.at a.cells.now) (omega arith))
