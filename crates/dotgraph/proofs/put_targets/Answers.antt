-- `put_targets` meets its contract. The loop's invariant: the arrows to the states below t are
-- written. Assumes nothing.
use native.Mathlib.Omega.{arith}
use Rattle.dotgraph.specs.DotText.{arrow_lines}
use Rattle.dotlabels.proofs.Rows.{begin, fits, more, all}
use Rattle.dotgraph.proofs.put_targets.Goals as goal

pub loop-t-init : goal.loop-t-init
loop-t-init c = let a = c.args in begin (arrow_lines a.targets.now a.k a.q.0) 69 a.n c.requires.3

pub put_target-at-requires : goal.put_target-at-requires
put_target-at-requires c =
    let h = c.requires in
    let t = c.loop-t-test.true in
    let room = fits c.loop-t.invariant t in
    (h.1, h.2, omega (arith, h.0, t), room)

pub loop-t-preserved : goal.loop-t-preserved
loop-t-preserved c =
    let w = c.put_target-at.ensures in
    more c.loop-t.invariant c.loop-t-test.true w

pub shape_of-out : goal.shape_of-out
shape_of-out c = c.loop-t.invariant.parts.kept

pub returns : goal.returns
returns c = all c.loop-t.invariant c.loop-t-test.false
