-- `gather` meets its contract. Assumes nothing.
--
-- The route: the loop's invariant, `SoFar`, says that what was gathered with what is gathered from
-- here on is what the whole block gives. A turn feeds one part: a line that goes on is kept
-- (`turn_on`), one that ends is answered (`turn_answered`). The loop ends where the block is used up
-- or the room is short.
use Rattle.linetexts.proofs.Turns.{turn_forward, turn_on, turn_answered}
use Rattle.linetexts.proofs.Gathering.{begun, ended, at_over, gather_short, placed_within}
use Rattle.linetexts.proofs.Ends.{came}
use Rattle.linetexts.specs.Lists.{list_of, list_teller}
use Rattle.traystream.specs.Texts.{tray_lines, tray_list}
use native.Mathlib.Omega.{arith}
use mathlib.Core.Path.{refl, ◌∙◌}
use Rattle.traystream.proofs.gather.Goals as goal

pub loop-at-init : goal.loop-at-init
loop-at-init c = (refl, refl, begun _ _ _ _ _)

pub loop-at-smaller-then-not-part : goal.loop-at-smaller-then-not-part
loop-at-smaller-then-not-part c = omega (arith, turn_forward _ _ c.loop-at-test.true _ _ _ _ c.take_part-part.ensures, c.loop-at-test.true)

pub loop-at-preserved-then-not-part : goal.loop-at-preserved-then-not-part
loop-at-preserved-then-not-part c =
    let here = c.loop-at-test.true in
    let loop = c.loop-at in
    let enough = c.if-out-written-lt-ANSWER.false in
    let took = c.take_part-part in
    (took.auto.line ∙ loop.invariant.0, loop.invariant.1, turn_on (list_teller tray_list) _ _ _ _ _ _ _ _ _ _ here took.result _ took.ensures loop.invariant.2 enough c.if-not-part.true)

pub overflow_add-written : goal.overflow_add-written
overflow_add-written c =
    let loop = c.loop-at in
    let said = c.answer_held-answered in
    omega (arith, loop.invariant.2.size, c.well_formed.1.1.1.1.0.0, placed_within loop.out said.new.out _ loop.written said.result.written loop.invariant.2.within said.auto.out said.ensures.text)

pub loop-at-smaller : goal.loop-at-smaller
loop-at-smaller c = omega (arith, turn_forward _ _ c.loop-at-test.true _ _ _ _ c.take_part-part.ensures, c.loop-at-test.true)

pub loop-at-preserved : goal.loop-at-preserved
loop-at-preserved c =
    let here = c.loop-at-test.true in
    let loop = c.loop-at in
    let enough = c.if-out-written-lt-ANSWER.false in
    let took = c.take_part-part in
    let said = c.answer_held-answered in
    (took.auto.line ∙ loop.invariant.0, said.auto.bytes ∙ loop.invariant.1, turn_answered (list_teller tray_list) _ _ _ _ _ (list_of loop.tray loop.ended) _ _ _ _ here took.result _ took.ensures loop.invariant.2 enough c.if-not-part.false _ _ said.auto.out _ c.nothing-held.ensures (list_of said.result.tray said.result.ended) _ (came tray_lines (list_of loop.tray loop.ended) _ _ _ said.ensures.ended_value) said.ensures.text)

pub returns-after-loop-at : goal.returns-after-loop-at
returns-after-loop-at c =
    let loop = c.loop-at in
    record { gathers = ended tray_lines _ _ _ _ _ _ _ _ loop.invariant.2 (at_over tray_lines _ _ _ _ c.loop-at-test.false); scratch = loop.invariant.1 }

pub returns-then-out-written-lt-ANSWER : goal.returns-then-out-written-lt-ANSWER
returns-then-out-written-lt-ANSWER c =
    let loop = c.loop-at in
    record { gathers = ended tray_lines _ _ _ _ _ _ _ _ loop.invariant.2 (gather_short tray_lines _ _ _ c.if-out-written-lt-ANSWER.true); scratch = loop.invariant.1 }
