-- `put_cells` meets its contract. The loop's invariant: the first i cells are written. Assumes nothing.
use mathlib.Core.Path.{◌≡◌}
use Prim.Native.Nat.{◌+◌}
use native.Mathlib.Omega.{arith}
use lib.ListN.{get_or}
use Rattle.ruletext.specs.RuleText.{cell_text}
use Rattle.ruletext.proofs.Lengths.{cell_most}
use Rattle.text.proofs.Fitting.{put, none_put, one_more}
use Rattle.formtext.proofs.Lengths.{cells_most}
use Rattle.formtext.proofs.put_cells.Goals as goal

pub loop-i-init : goal.loop-i-init
loop-i-init c =
    let a = c.args in
    (omega arith, c.requires.0, c.requires.1, c.requires.2, none_put (λ i. cell_text (get_or a.cells.now (a.first + i) 0)) a.out.now a.start (omega (arith, c.requires)))

pub overflow_add-to : goal.overflow_add-to
overflow_add-to c = omega (arith, c.loop-i.invariant)

pub offset_bounds-cells-first : goal.offset_bounds-cells-first
offset_bounds-cells-first c = omega (arith, c.loop-i.invariant)

pub bounds-cells-first : goal.bounds-cells-first
bounds-cells-first c = omega (arith, c.loop-i.invariant)

pub put_cell-at-requires : goal.put_cell-at-requires
put_cell-at-requires c =
    let x = c.loop-i in
    let a = c.args in
    omega (arith, x.invariant, c.loop-i-test.true, x.invariant.4.kept, x.invariant.4.wrote.ends, cells_most a.cells.now a.first x.i)

pub loop-i-preserved : goal.loop-i-preserved
loop-i-preserved c =
    let x = c.loop-i in
    let a = c.args in
    let w = c.put_cell-at in
    let t = c.loop-i-test.true in
    let r = cells_most a.cells.now a.first x.i in
    let m = cell_most (get_or a.cells.now (a.first + x.i) 0) in (
      omega (arith, t),
      x.invariant.1,
      x.invariant.2,
      x.invariant.3,
      one_more (λ i. cell_text (get_or a.cells.now (a.first + i) 0)) x.i x.invariant.4
          (put (omega (arith, x.invariant, t, r, m, x.invariant.4.kept, x.invariant.4.wrote.ends)) w.ensures),
    )

pub shape_of-out : goal.shape_of-out
shape_of-out c = c.loop-i.invariant.4.kept

pub returns : goal.returns
returns c =
    let x = c.loop-i in
    let a = c.args in
    let e : x.i ≡ a.n = omega (arith, x.invariant, c.loop-i-test.false) in
    let w = x.invariant.4.wrote in
    let r = cells_most a.cells.now a.first x.i in
    (rw e at w, omega (arith, w.ends, r, x.invariant))
