-- `pack` meets its contract. The loop's invariant: the text of the bytes passed stands at the start
-- of the buffer, and has no more bytes than were passed. Assumes nothing.
use native.Mathlib.Omega.{arith}
use Rattle.marks.proofs.Packing.{begun, passed, put, whole}
use Rattle.marks.proofs.pack.Goals.{else-b, then-b}
use Rattle.marks.proofs.pack.Goals as goal

pub loop-b-init : goal.loop-b-init
loop-b-init c = begun c.args.chunk.now c.args.text.now c.requires

pub bounds-text-n : goal.bounds-text-n
bounds-text-n c = let l = c.loop-b in omega (arith, l.invariant.few, l.invariant.same, l.invariant.room, c.loop-b-test.true)

pub overflow_add-n : goal.overflow_add-n
overflow_add-n c = let l = c.loop-b in omega (arith, l.invariant.few, c.loop-b-test.true)

pub loop-b-preserved : goal.loop-b-preserved
loop-b-preserved c =
    let l = c.loop-b in
    let a = c.args in
    let h = c.loop-b-test.true in
    (elim c.if-b.branch [ then-b w ↦ rw (w.text-is, w.n-is) (put a.chunk.now a.text.now l.text l.n l.b-index l.invariant h w.if-b.true) | else-b w ↦ rw (w.text-is, w.n-is) (passed a.chunk.now a.text.now l.text l.n l.b-index l.invariant h w.if-b.false) ])

pub shape_of-text : goal.shape_of-text
shape_of-text c = c.loop-b.invariant.same

pub returns : goal.returns
returns c =
    let l = c.loop-b in
    let a = c.args in
    whole a.chunk.now a.text.now l.text l.n l.b-index l.invariant c.loop-b-test.false
