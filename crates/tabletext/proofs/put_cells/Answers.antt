-- `put_cells` meets its contract. The loop's invariant: the first c cells are written. Assumes
-- nothing.
use mathlib.Core.Path.{◌≡◌}
use Prim.Native.Nat.{◌+◌, ◌*◌, ◌/◌, ◌%◌}
use native.Mathlib.Omega.{arith}
use lib.ListN.{get_or}
use Rattle.text.proofs.Fitting.{put, none_put, one_more}
use Rattle.tabletext.specs.Answers.{cell_text}
use Rattle.tabletext.proofs.Lengths.{text_most, cells_most, row_lt, column_lt}
use Rattle.tabletext.proofs.put_cells.Goals as goal

pub loop-c-init : goal.loop-c-init
loop-c-init c =
    let a = c.args in
    (omega arith, c.requires.0, c.requires.1, c.requires.2, c.requires.3, none_put (λ c. cell_text c (get_or a.next.now (c / a.k * 16 + c % a.k) 0)) a.out.now a.start (omega (arith, c.requires)))

pub nonzero_div-to : goal.nonzero_div-to
nonzero_div-to c = omega (arith, c.loop-c.invariant.1)

pub overflow_mul-to : goal.overflow_mul-to
overflow_mul-to c = omega (arith, c.loop-c.invariant.2, row_lt c.loop-c.c c.args.k c.args.count c.loop-c.invariant.1 c.loop-c-test.true c.loop-c.invariant.3, column_lt c.loop-c.c c.args.k c.loop-c.invariant.1)

pub nonzero_rem-to : goal.nonzero_rem-to
nonzero_rem-to c = omega (arith, c.loop-c.invariant.1)

pub overflow_add-to : goal.overflow_add-to
overflow_add-to c = omega (arith, c.loop-c.invariant.2, row_lt c.loop-c.c c.args.k c.args.count c.loop-c.invariant.1 c.loop-c-test.true c.loop-c.invariant.3, column_lt c.loop-c.c c.args.k c.loop-c.invariant.1)

pub offset_bounds-next-c : goal.offset_bounds-next-c
offset_bounds-next-c c = omega (arith, c.loop-c.invariant.2, row_lt c.loop-c.c c.args.k c.args.count c.loop-c.invariant.1 c.loop-c-test.true c.loop-c.invariant.3, column_lt c.loop-c.c c.args.k c.loop-c.invariant.1)

pub bounds-next-c : goal.bounds-next-c
bounds-next-c c = omega (arith, c.loop-c.invariant.2, row_lt c.loop-c.c c.args.k c.args.count c.loop-c.invariant.1 c.loop-c-test.true c.loop-c.invariant.3, column_lt c.loop-c.c c.args.k c.loop-c.invariant.1)

pub put_cell-at-requires : goal.put_cell-at-requires
put_cell-at-requires c =
    let x = c.loop-c in
    let a = c.args in
    omega (arith, x.invariant, c.loop-c-test.true, x.invariant.5.kept, x.invariant.5.wrote.ends, cells_most a.next.now a.k x.c)

pub loop-c-preserved : goal.loop-c-preserved
loop-c-preserved c =
    let x = c.loop-c in
    let a = c.args in
    let w = c.put_cell-at in
    let t = c.loop-c-test.true in
    let r = cells_most a.next.now a.k x.c in
    let m = text_most x.c (get_or a.next.now (x.c / a.k * 16 + x.c % a.k) 0) in (
      omega (arith, t),
      x.invariant.1,
      x.invariant.2,
      x.invariant.3,
      x.invariant.4,
      one_more (λ c. cell_text c (get_or a.next.now (c / a.k * 16 + c % a.k) 0)) x.c x.invariant.5
          (put (omega (arith, x.invariant, t, r, m, x.invariant.5.kept, x.invariant.5.wrote.ends)) w.ensures),
    )

pub shape_of-out : goal.shape_of-out
shape_of-out c = c.loop-c.invariant.5.kept

pub returns : goal.returns
returns c =
    let x = c.loop-c in
    let a = c.args in
    let e : x.c ≡ a.count = omega (arith, x.invariant, c.loop-c-test.false) in
    let w = x.invariant.5.wrote in
    let r = cells_most a.next.now a.k x.c in
    (rw e at w, omega (arith, w.ends, r, x.invariant))
