-- `put_fields` meets its contract. The loop's invariant: the delegates of the first q states are
-- written. Assumes nothing.
use native.Mathlib.Omega.{arith}
use mathlib.Core.Path.{◌≡◌}
use Rattle.delegates.specs.Alike.{delegate_in}
use Rattle.ruletext.specs.RuleText.{delegate_text}
use Rattle.text.proofs.Fitting.{put, none_put, one_more}
use Rattle.ruletext.proofs.Lengths.{delegate_most, fields_most}
use Rattle.ruletext.proofs.put_fields.Goals as goal

pub loop-q-init : goal.loop-q-init
loop-q-init c =
    let a = c.args in
    (c.requires.1, none_put (λ i. delegate_text (delegate_in a.delegates.now i)) a.out.now a.start (omega (arith, c.requires)))

pub put_delegate-at-requires : goal.put_delegate-at-requires
put_delegate-at-requires c =
    let x = c.loop-q in
    omega (arith, x.invariant, c.loop-q-test.true, fields_most c.args.delegates.now x.q)

pub loop-q-preserved : goal.loop-q-preserved
loop-q-preserved c =
    let x = c.loop-q in
    let d = c.args.delegates.now in
    let t = c.loop-q-test.true in
    let l = fields_most d x.q in
    let m = delegate_most d x.q in
    let w = rw c.delegate_at-delegate.ensures at c.put_delegate-at.ensures in (
      x.invariant.0,
      one_more (λ i. delegate_text (delegate_in d i)) x.q x.invariant.1 (put (omega (arith, x.invariant, t, l, m)) w),
    )

pub shape_of-out : goal.shape_of-out
shape_of-out c = c.loop-q.invariant.1.kept

pub returns : goal.returns
returns c =
    let x = c.loop-q in
    let a = c.args in
    let e : x.q ≡ a.n = omega (arith, x.invariant, c.loop-q-test.false) in
    (rw e at x.invariant.1.wrote, omega (arith, x.invariant, fields_most a.delegates.now x.q))
