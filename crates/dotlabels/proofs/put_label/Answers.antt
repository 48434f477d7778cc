-- `put_label` meets its contract. The loop's invariant: the pieces of the symbols below s are
-- written. Assumes nothing.
use native.Mathlib.Omega.{arith}
use Rattle.dotlabels.specs.Labels.{leads, piece}
use Rattle.dotlabels.proofs.Rows.{begin, fits, more, all}
use Rattle.dotlabels.proofs.put_label.Goals as goal

pub loop-s-init : goal.loop-s-init
loop-s-init c = let a = c.args in begin (piece (leads a.targets.now a.k a.q.0 a.t.0)) 3 a.k c.requires.3

pub put_piece-at-requires : goal.put_piece-at-requires
put_piece-at-requires c =
    let h = c.requires in
    let t = c.loop-s-test.true in
    let room = fits c.loop-s.invariant t in
    (h.0, h.1, h.2, omega (arith, h.0, t), room)

pub loop-s-preserved : goal.loop-s-preserved
loop-s-preserved c =
    let w = c.put_piece-at.ensures in
    more c.loop-s.invariant c.loop-s-test.true w

pub shape_of-out : goal.shape_of-out
shape_of-out c = c.loop-s.invariant.parts.kept

pub returns : goal.returns
returns c = all c.loop-s.invariant c.loop-s-test.false
