-- `put_sets` meets its contract. The loop's invariant: the lines of the first i sets are written.
-- Assumes nothing.
use native.Mathlib.Omega.{arith}
use mathlib.Core.Path.{◌≡◌}
use Rattle.ruletext.specs.RuleText.{set_line}
use Rattle.text.proofs.Fitting.{put, none_put, one_more}
use Rattle.ruletext.proofs.Lengths.{line_most, lines_most}
use Rattle.ruletext.proofs.put_sets.Goals as goal

pub loop-i-init : goal.loop-i-init
loop-i-init c =
    let a = c.args in
    (c.requires.0, c.requires.1, c.requires.2, none_put (set_line a.sets.now a.next.now a.k) a.out.now a.start (omega (arith, c.requires)))

pub overflow_cast-number : goal.overflow_cast-number
overflow_cast-number c = omega (arith, c.loop-i.invariant)

pub put_set-at-requires : goal.put_set-at-requires
put_set-at-requires c =
    let x = c.loop-i in
    let a = c.args in
    let t = c.loop-i-test.true in
    let l = lines_most a.sets.now a.next.now a.k x.invariant.0 x.i (omega (arith, x.invariant)) in
    (x.invariant.0, omega (arith, x.invariant, t), omega (arith, x.invariant, t, l))

pub loop-i-preserved : goal.loop-i-preserved
loop-i-preserved c =
    let x = c.loop-i in
    let a = c.args in
    let t = c.loop-i-test.true in
    let l = lines_most a.sets.now a.next.now a.k x.invariant.0 x.i (omega (arith, x.invariant)) in
    let m = line_most a.sets.now a.next.now a.k x.i x.invariant.0 (omega (arith, x.invariant, t)) in (
      x.invariant.0,
      x.invariant.1,
      x.invariant.2,
      one_more (set_line a.sets.now a.next.now a.k) x.i x.invariant.3 (put (omega (arith, x.invariant, t, l, m)) c.put_set-at.ensures),
    )

pub shape_of-out : goal.shape_of-out
shape_of-out c = c.loop-i.invariant.3.kept

pub returns : goal.returns
returns c =
    let x = c.loop-i in
    let e : x.i ≡ c.args.count = omega (arith, x.invariant, c.loop-i-test.false) in
    rw e at x.invariant.3.wrote
