-- `put_states` meets its contract. The loop's invariant: the pairs and the sections of the first q
-- states are written. Assumes nothing.
use Rattle.rulewriter.proofs.States.{begin, room, place, pair_room, more, all}
use native.Mathlib.Omega.{arith}
use Rattle.rulewriter.proofs.put_states.Goals as goal

pub loop-q-init : goal.loop-q-init
loop-q-init c = let a = c.args in begin a.n a.k a.targets.now c.requires.2

pub put_section-end-requires : goal.put_section-end-requires
put_section-end-requires c =
    let a = c.args in
    let p = c.requires in
    let t = c.loop-q-test.true in
    (p.0, p.1, omega (arith, p.0, t), room a.n a.k a.targets.now c.loop-q.invariant t)

pub overflow_sub-end : goal.overflow_sub-end
overflow_sub-end c = omega (arith, c.put_section-end.ensures.ends)

pub put_pair-requires : goal.put_pair-requires
put_pair-requires c =
    let a = c.args in
    let p = c.requires in
    let t = c.loop-q-test.true in
    let i = c.loop-q.invariant in
    let v = c.put_section-end.ensures in
    let h = place a.n a.k a.targets.now i t p.0 p.1 v in
    (h.0, omega (arith, h.1), pair_room a.n a.k a.targets.now i t p.0 p.1 v)

pub loop-q-preserved : goal.loop-q-preserved
loop-q-preserved c =
    let a = c.args in
    let p = c.requires in
    more a.n a.k a.targets.now c.loop-q.invariant c.loop-q-test.true p.0 p.1
    c.put_section-end.ensures c.put_pair.ensures

pub shape_of-out : goal.shape_of-out
shape_of-out c = let i = c.loop-q.invariant in omega (arith, i.back.put.kept, i.front.put.kept)

pub returns : goal.returns
returns c = all c.args.n c.args.k c.args.targets.now c.loop-q.invariant c.loop-q-test.false c.requires.2
