-- `gather` meets its contract. Assumes nothing.
--
-- The route: the loop's invariant, `SoFar`, says that what was gathered with what is gathered from
-- here on is what the whole block gives. A turn feeds one part: a line that goes on is kept
-- (`turn_on`), one that ends is answered (`turn_put`). The loop ends where the block is used up or the
-- room is short.
use Rattle.linetexts.specs.Alone.{answer_teller, answering}
use Rattle.linetexts.proofs.Turns.{turn_forward, turn_on, turn_put}
use Rattle.linetexts.proofs.Gathering.{begun, ended, at_over, gather_short}
use native.Mathlib.Omega.{arith}
use mathlib.Core.Path.{refl, ◌∙◌}
use Rattle.linetexts.proofs.gather.Goals as goal

pub loop-at-init : goal.loop-at-init
loop-at-init g c = (refl, begun _ _ _ _ _)

pub loop-at-smaller-then-not-part : goal.loop-at-smaller-then-not-part
loop-at-smaller-then-not-part g c = omega (arith, turn_forward _ _ c.loop-at-test.true _ _ _ _ c.take_part-part.ensures, c.loop-at-test.true)

pub loop-at-preserved-then-not-part : goal.loop-at-preserved-then-not-part
loop-at-preserved-then-not-part g c =
    let a = g.A.AnswersLines in
    let loop = c.loop-at in
    let took = c.take_part-part in (
      took.auto.line ∙ loop.invariant.0,
      turn_on (answer_teller a.answer a.overlong a.longest a.ROOM) _ _ _ _ _ _ _ _ _ _ c.loop-at-test.true took.result _ took.ensures loop.invariant.1
          (omega (arith, c.ROOM.ensures, c.if-out-written.false)) c.if-not-part.true,
    )

pub loop-at-smaller : goal.loop-at-smaller
loop-at-smaller g c = omega (arith, turn_forward _ _ c.loop-at-test.true _ _ _ _ c.take_part-part.ensures, c.loop-at-test.true)

pub loop-at-preserved : goal.loop-at-preserved
loop-at-preserved g c =
    let a = g.A.AnswersLines in
    let loop = c.loop-at in
    let took = c.take_part-part in
    let said = c.answer_held-written in (
      took.auto.line ∙ loop.invariant.0,
      turn_put (answer_teller a.answer a.overlong a.longest a.ROOM) _ _ _ _ _ _ _ _ _ _ c.loop-at-test.true took.result _ took.ensures loop.invariant.1
          (omega (arith, c.ROOM.ensures, c.if-out-written.false)) c.if-not-part.false _ c.nothing-held.ensures tt _ refl _ _ said.ensures said.auto.out,
    )

pub returns-after-loop-at : goal.returns-after-loop-at
returns-after-loop-at g c =
    let a = g.A.AnswersLines in
    let loop = c.loop-at in
    let m = answering a.answer a.overlong a.longest a.ROOM in
    ended m _ _ _ _ _ _ _ _ loop.invariant.1 (at_over m _ _ _ _ c.loop-at-test.false)

pub returns-then-out-written : goal.returns-then-out-written
returns-then-out-written g c =
    let a = g.A.AnswersLines in
    let loop = c.loop-at in
    let m = answering a.answer a.overlong a.longest a.ROOM in
    ended m _ _ _ _ _ _ _ _ loop.invariant.1 (gather_short m _ _ _ (omega (arith, c.ROOM.ensures, c.if-out-written.true)))
