-- `put_sets` meets its contract. The loop's invariant: the lines of the sets passed are written, and
-- so many cells stand in them. Assumes nothing.
use mathlib.Core.Path.{◌≡◌, refl}
use native.Mathlib.Omega.{arith}
use lib.ListN.{get_or}
use Rattle.base.specs.Totals.{total}
use Rattle.base.proofs.Totals.{total_more}
use Rattle.text.proofs.Fitting.{put, none_put, one_more}
use Rattle.formtext.specs.FormText.{bits_in, set_line}
use Rattle.formtext.proofs.Lengths.{first_most}
use Rattle.formtext.proofs.put_sets.Goals as goal

pub loop-t-init : goal.loop-t-init
unfolding total
loop-t-init c =
    let a = c.args in
    (omega arith, c.requires.0, refl, c.requires.1, omega arith, none_put (set_line a.failure.now a.kept.now a.cells.now) a.out.now a.start (omega (arith, c.requires)))

pub put_set-at-requires : goal.put_set-at-requires
put_set-at-requires c =
    let x = c.loop-t in
    let a = c.args in
    let t = c.loop-t-test.true in
    let n = c.bits_in-n.ensures.0 in
    (omega (arith, x.invariant, t), n, omega (arith, x.invariant, t, n, first_most a.kept.now x.t), omega (arith, x.invariant, t, x.invariant.5.kept))

pub overflow_add-first : goal.overflow_add-first
overflow_add-first c =
    let x = c.loop-t in
    let a = c.args in
    omega (arith, x.invariant, c.loop-t-test.true, c.bits_in-n.ensures.0, first_most a.kept.now x.t)

pub loop-t-preserved : goal.loop-t-preserved
loop-t-preserved c =
    let x = c.loop-t in
    let a = c.args in
    let t = c.loop-t-test.true in
    let b = c.bits_in-n.ensures in
    let w = c.put_set-at.ensures in
    let m = total_more (λ u. bits_in (get_or a.kept.now u 0)) x.t in (
      omega (arith, t),
      x.invariant.1,
      omega (arith, m, b.1, x.invariant.2),
      x.invariant.3,
      omega (arith, w.1, x.invariant.4),
      one_more (set_line a.failure.now a.kept.now a.cells.now) x.t x.invariant.5
          (rw (x.invariant.2, b.1) at (put (omega (arith, w.0.ends, w.1, x.invariant, t, x.invariant.5.kept)) w.0)),
    )

pub shape_of-out : goal.shape_of-out
shape_of-out c = c.loop-t.invariant.5.kept

pub returns : goal.returns
returns c =
    let x = c.loop-t in
    let e : x.t ≡ c.args.count = omega (arith, x.invariant, c.loop-t-test.false) in
    (rw e at x.invariant.5.wrote, omega (arith, x.invariant, c.loop-t-test.false))
