-- `put_arcs` meets its contract. The loop's invariant: the arcs to the first t states are written.
-- Assumes nothing.
use Rattle.rulewriter.proofs.Parts.{begin, fits, more, all}
use Rattle.rulewriter.specs.Written.{arc_to}
use native.Mathlib.Omega.{arith}
use Rattle.rulewriter.proofs.put_arcs.Goals as goal

pub loop-t-init : goal.loop-t-init
loop-t-init c = let a = c.args in begin (arc_to a.mask a.symbol) a.n c.requires.1

pub put_arc-at-requires : goal.put_arc-at-requires
put_arc-at-requires c =
    let t = c.loop-t-test.true in
    let room = fits c.loop-t.invariant t in
    (omega (arith, c.requires.0, t), room)

pub loop-t-preserved : goal.loop-t-preserved
loop-t-preserved c = more c.loop-t.invariant c.loop-t-test.true c.put_arc-at.ensures

pub shape_of-out : goal.shape_of-out
shape_of-out c = c.loop-t.invariant.put.kept

pub returns : goal.returns
returns c = all c.loop-t.invariant c.loop-t-test.false
