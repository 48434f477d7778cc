-- `put_section` meets its contract. The loop's invariant: the arcs by the first s symbols are written.
-- Assumes nothing.
use Rattle.rulewriter.proofs.Parts.{begin, fits, more, all}
use borrow.Author.Tests.{lt-ltb}
use native.Mathlib.Omega.{arith}
use Prim.Native.Nat.{◌<◌}
use Rattle.rulewriter.proofs.put_section.Invariants.{part}
use Rattle.rulewriter.proofs.put_section.Goals as goal

pub loop-s-init : goal.loop-s-init
loop-s-init c = let a = c.args in begin (part a.targets.now a.n a.q.0) a.k c.requires.3

pub put_arcs-at-requires : goal.put_arcs-at-requires
put_arcs-at-requires c =
    let p = c.requires in
    let t = c.loop-s-test.true in
    let s : c.loop-s.s < 16 = omega (arith, p.1, t) in
    (p.0, rw (lt-ltb c.loop-s.s 16 s) at (fits c.loop-s.invariant t))

pub loop-s-preserved : goal.loop-s-preserved
loop-s-preserved c =
    let t = c.loop-s-test.true in
    let s : c.loop-s.s < 16 = omega (arith, c.requires.1, t) in
    more c.loop-s.invariant t (rw (lt-ltb c.loop-s.s 16 s) c.put_arcs-at.ensures)

pub shape_of-out : goal.shape_of-out
shape_of-out c = c.loop-s.invariant.put.kept

pub returns : goal.returns
returns c = all c.loop-s.invariant c.loop-s-test.false
