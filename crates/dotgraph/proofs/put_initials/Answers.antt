-- `put_initials` meets its contract. The loop's invariant: the lines of the initial states below q
-- are written. Assumes nothing.
use native.Mathlib.Omega.{arith}
use Rattle.dotgraph.specs.DotText.{initial_lines}
use Rattle.dotlabels.proofs.Rows.{begin, fits, more, all}
use Rattle.dotgraph.proofs.put_initials.Goals as goal

pub loop-q-init : goal.loop-q-init
loop-q-init c = let a = c.args in begin (initial_lines a.initials) 30 a.n c.requires.1

pub put_initial-at-requires : goal.put_initial-at-requires
put_initial-at-requires c =
    let h = c.requires in
    let t = c.loop-q-test.true in
    let room = fits c.loop-q.invariant t in
    (omega (arith, h.0, t), room)

pub loop-q-preserved : goal.loop-q-preserved
loop-q-preserved c =
    let w = c.put_initial-at.ensures in
    more c.loop-q.invariant c.loop-q-test.true w

pub shape_of-out : goal.shape_of-out
shape_of-out c = c.loop-q.invariant.parts.kept

pub returns : goal.returns
returns c = all c.loop-q.invariant c.loop-q-test.false
