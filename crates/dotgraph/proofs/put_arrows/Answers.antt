-- `put_arrows` meets its contract. The loop's invariant: the arrows from the states below q are
-- written. Assumes nothing.
use native.Mathlib.Omega.{arith}
use Rattle.dotgraph.specs.DotText.{arrows_from}
use Rattle.dotlabels.proofs.Rows.{begin, fits, more, all}
use Rattle.dotgraph.proofs.put_arrows.Goals as goal

pub loop-q-init : goal.loop-q-init
loop-q-init c = let a = c.args in begin (arrows_from a.targets.now a.n a.k) 2208 a.n c.requires.2

pub put_targets-at-requires : goal.put_targets-at-requires
put_targets-at-requires c =
    let h = c.requires in
    let t = c.loop-q-test.true in
    let room = fits c.loop-q.invariant t in
    (h.0, h.1, omega (arith, h.0, t), omega (arith, h.0, room))

pub loop-q-preserved : goal.loop-q-preserved
loop-q-preserved c =
    let w = c.put_targets-at.ensures in
    let h = c.requires in
    more c.loop-q.invariant c.loop-q-test.true (w.0, omega (arith, h.0, w.1))

pub shape_of-out : goal.shape_of-out
shape_of-out c = c.loop-q.invariant.parts.kept

pub returns : goal.returns
returns c = all c.loop-q.invariant c.loop-q-test.false
