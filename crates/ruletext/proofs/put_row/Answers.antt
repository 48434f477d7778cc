-- `put_row` meets its contract. The loop's invariant: the cells of the first s symbols are written.
-- Assumes nothing.
use native.Mathlib.Omega.{arith}
use Prim.Native.Nat.{◌+◌, ◌*◌}
use mathlib.Core.Path.{◌≡◌}
use lib.ListN.{get_or}
use Rattle.ruletext.specs.RuleText.{cell_text}
use Rattle.text.proofs.Fitting.{put, none_put, one_more}
use Rattle.ruletext.proofs.Lengths.{cell_most, row_most}
use Rattle.ruletext.proofs.put_row.Goals as goal

pub loop-s-init : goal.loop-s-init
loop-s-init c =
    let a = c.args in
    (c.requires.0, c.requires.1, c.requires.2, none_put (λ t. cell_text (get_or a.next.now (a.i.0 * 16 + t) 0)) a.out.now a.start (omega (arith, c.requires)))

pub overflow_mul-to : goal.overflow_mul-to
overflow_mul-to c = omega (arith, c.loop-s.invariant)

pub overflow_add-to : goal.overflow_add-to
overflow_add-to c = omega (arith, c.loop-s.invariant)

pub offset_bounds-next-row : goal.offset_bounds-next-row
offset_bounds-next-row c = omega (arith, c.loop-s.invariant)

pub bounds-next-row : goal.bounds-next-row
bounds-next-row c = omega (arith, c.loop-s.invariant)

pub put_cell-at-requires : goal.put_cell-at-requires
put_cell-at-requires c =
    let x = c.loop-s in
    let a = c.args in
    omega (arith, x.invariant, c.loop-s-test.true, row_most a.next.now x.s a.i.0)

pub loop-s-preserved : goal.loop-s-preserved
loop-s-preserved c =
    let x = c.loop-s in
    let a = c.args in
    let w = c.put_cell-at in
    let t = c.loop-s-test.true in
    let r = row_most a.next.now x.s a.i.0 in
    let m = cell_most (get_or a.next.now (a.i.0 * 16 + x.s) 0) in (
      x.invariant.0,
      x.invariant.1,
      x.invariant.2,
      one_more (λ t. cell_text (get_or a.next.now (a.i.0 * 16 + t) 0)) x.s x.invariant.3 (put (omega (arith, x.invariant, t, r, m)) w.ensures),
    )

pub shape_of-out : goal.shape_of-out
shape_of-out c = c.loop-s.invariant.3.kept

pub returns : goal.returns
returns c =
    let x = c.loop-s in
    let e : x.s ≡ c.args.k = omega (arith, x.invariant, c.loop-s-test.false) in
    rw e at x.invariant.3.wrote
