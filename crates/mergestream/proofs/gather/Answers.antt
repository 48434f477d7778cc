-- `gather` meets its contract. Assumes nothing.
--
-- The route: the loop's invariant, `SoFar`, says that what was gathered with what is gathered from
-- here on is what the whole block gives. A turn feeds one part: a line that goes on is kept
-- (`part_on`), one that ends is answered (`part_answered`). The loop ends where the block is used up
-- or the room is short.
use Rattle.linetexts.proofs.Turns.{part_forward, part_on, part_answered, not_ended, has_ended}
use Rattle.linetexts.proofs.Gathering.{begun, ended, at_over, gather_short}
use Rattle.mergescan.specs.Scanning.{scan_all}
use Rattle.mergestream.specs.Texts.{merge_lines}
use native.Mathlib.Omega.{arith}
use mathlib.Core.Path.{refl, sym, ap, ◌∙◌}
use Rattle.mergestream.proofs.gather.Goals as goal

pub loop-at-init : goal.loop-at-init
loop-at-init c = (refl, refl, begun _ _ _ _ _)

pub loop-at-smaller-then-not-part : goal.loop-at-smaller-then-not-part
loop-at-smaller-then-not-part c = omega (arith, part_forward _ _ _ c.loop-at-test.true c.part_at-part.ensures.next, c.loop-at-test.true)

pub loop-at-preserved-then-not-part : goal.loop-at-preserved-then-not-part
loop-at-preserved-then-not-part c =
    let loop = c.loop-at in
    let part = c.part_at-part.ensures in
    let on = c.scan_bytes-scan in
    (on.auto.one ∙ loop.invariant.0, on.auto.two ∙ loop.invariant.1, part_on merge_lines _ _ _ _ _ _ _ _ _ c.loop-at-test.true loop.invariant.2 c.if-out-written-lt-ANSWER.false _ (on.ensures ∙ ap (scan_all _) part.bytes) _ part.next (sym part.ends ∙ not_ended _ c.if-not-part.true))

pub loop-at-smaller : goal.loop-at-smaller
loop-at-smaller c = omega (arith, part_forward _ _ _ c.loop-at-test.true c.part_at-part.ensures.next, c.loop-at-test.true)

pub loop-at-preserved : goal.loop-at-preserved
loop-at-preserved c =
    let loop = c.loop-at in
    let part = c.part_at-part.ensures in
    let on = c.scan_bytes-scan in
    let said = c.put_answer-written in
    (on.auto.one ∙ loop.invariant.0, on.auto.two ∙ loop.invariant.1, part_answered merge_lines _ _ _ _ _ _ _ _ _ c.loop-at-test.true loop.invariant.2 c.if-out-written-lt-ANSWER.false _ (on.ensures ∙ ap (scan_all _) part.bytes) _ part.next (sym part.ends ∙ has_ended _ c.if-not-part.false) _ refl tt _ refl _ _ said.ensures said.auto.out)

pub returns-after-loop-at : goal.returns-after-loop-at
returns-after-loop-at c =
    let loop = c.loop-at in
    ended merge_lines _ _ _ _ _ _ _ _ loop.invariant.2 (at_over merge_lines _ _ _ _ c.loop-at-test.false)

pub returns-then-out-written-lt-ANSWER : goal.returns-then-out-written-lt-ANSWER
returns-then-out-written-lt-ANSWER c =
    let loop = c.loop-at in
    ended merge_lines _ _ _ _ _ _ _ _ loop.invariant.2 (gather_short merge_lines _ _ _ c.if-out-written-lt-ANSWER.true)
