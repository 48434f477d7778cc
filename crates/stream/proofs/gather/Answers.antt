-- `gather` meets its contract. Assumes nothing.
--
-- The route: the loop's invariant, `SoFar`, says that what was gathered with what is gathered from
-- here on is what the whole block gives. A turn feeds one part: a line that goes on is kept
-- (`turn_on`); one that is skipped, one that asks for the verdict or a question, and one that is run are
-- answered (`turn_answered`), all but the last from the judge at hand. The loop ends where the block is used up or the room is short.
use Rattle.linetexts.proofs.Turns.{turn_forward, turn_on, turn_answered}
use Rattle.linetexts.proofs.Gathering.{begun, ended, at_over, gather_short, placed_within}
use Rattle.linetexts.proofs.Lists.{skipped_state, skipped_text_lem}
use Rattle.linetexts.proofs.Ends.{came}
use Rattle.linetexts.specs.Lists.{list_of, list_teller}
use Rattle.stream.specs.Texts.{call_lines, call_list}
use Rattle.stream.proofs.Held.{read_within, read_whole, verdict_came, ask_inside, ask_came, run_inside, run_came}
use Prim.Native.Nat.{◌<◌}
use native.Mathlib.Omega.{arith}
use mathlib.Core.Path.{refl, ◌∙◌}
use borrow.Author.Rules.{rules}
use Rattle.stream.proofs.gather.Goals.{After-take_part-part}
use Rattle.stream.proofs.gather.Goals as goal

-- ---- where a part was taken
forward : (c : After-take_part-part) → c.loop-at.at < c.take_part-part.result.at
forward c = turn_forward _ _ c.loop-at-test.true _ _ _ _ c.take_part-part.ensures

pub loop-at-init : goal.loop-at-init
loop-at-init c = (refl, refl, begun _ _ _ _ _)

pub loop-at-smaller-then-not-part : goal.loop-at-smaller-then-not-part
loop-at-smaller-then-not-part c = omega (arith, forward (goal.at.loop-at-smaller-then-not-part c).After-take_part-part, c.loop-at-test.true)

pub loop-at-preserved-then-not-part : goal.loop-at-preserved-then-not-part
loop-at-preserved-then-not-part c =
    let here = c.loop-at-test.true in
    let loop = c.loop-at in
    let enough = c.if-out-written-lt-ANSWER.false in
    let took = c.take_part-part in
    (took.auto.line ∙ loop.invariant.0, loop.invariant.1, turn_on (list_teller call_list) _ _ _ _ _ _ _ _ _ _ here took.result _ took.ensures loop.invariant.2 enough c.if-not-part.true)

pub overflow_add-written : goal.overflow_add-written
overflow_add-written c =
    let loop = c.loop-at in
    let said = c.put_skipped-written in
    omega (arith, loop.invariant.2.size, c.well_formed.1.1.1.1.0.0, placed_within loop.out said.new.out _ loop.written said.result loop.invariant.2.within said.auto.out said.ensures)

pub loop-at-smaller-then-skips : goal.loop-at-smaller-then-skips
loop-at-smaller-then-skips c = omega (arith, forward (goal.at.loop-at-smaller-then-skips c).After-take_part-part, c.loop-at-test.true)

pub loop-at-preserved-then-skips : goal.loop-at-preserved-then-skips
loop-at-preserved-then-skips c =
    let here = c.loop-at-test.true in
    let loop = c.loop-at in
    let enough = c.if-out-written-lt-ANSWER.false in
    let took = c.take_part-part in
    let skips = c.skips.ensures in
    let taken = c.if-skips.true in
    let said = c.put_skipped-written in
    (took.auto.line ∙ loop.invariant.0, loop.invariant.1, turn_answered (list_teller call_list) _ _ _ _ _ _ _ _ _ _ here took.result _ took.ensures loop.invariant.2 enough c.if-not-part.false _ _ said.auto.out _ c.nothing-held.ensures (list_of loop.judge loop.ended) _ (came call_lines (list_of loop.judge loop.ended) (list_of loop.judge loop.ended) _ _ (skipped_state call_list loop.judge loop.ended _ _ _ skips taken)) (skipped_text_lem call_list loop.judge loop.ended _ _ _ skips taken _ _ _ said.ensures))

pub overflow_add-written-in-Verdict : goal.overflow_add-written-in-Verdict
overflow_add-written-in-Verdict c =
    let loop = c.loop-at in
    let said = c.ask_verdict-written in
    omega (arith, loop.invariant.2.size, c.well_formed.1.1.1.1.0.0, placed_within loop.out said.new.out _ loop.written said.result loop.invariant.2.within said.auto.out said.ensures)

pub loop-at-smaller-in-Verdict : goal.loop-at-smaller-in-Verdict
loop-at-smaller-in-Verdict c = omega (arith, forward (goal.at.loop-at-smaller-in-Verdict c).After-take_part-part, c.loop-at-test.true)

pub loop-at-preserved-in-Verdict : goal.loop-at-preserved-in-Verdict
loop-at-preserved-in-Verdict c =
    let here = c.loop-at-test.true in
    let loop = c.loop-at in
    let enough = c.if-out-written-lt-ANSWER.false in
    let took = c.take_part-part in
    let skips = c.skips.ensures in
    let left = c.if-skips.false in
    let read = c.read_line-read in
    let said = c.ask_verdict-written in
    (took.auto.line ∙ loop.invariant.0, loop.invariant.1, turn_answered (list_teller call_list) _ _ _ _ _ _ _ _ _ _ here took.result _ took.ensures loop.invariant.2 enough c.if-not-part.false _ _ said.auto.out _ c.nothing-held-in-loop-at.ensures _ _ (verdict_came loop.judge loop.ended _ _ _ skips left read.result read.ensures c.in-Verdict.is) said.ensures)

pub slice_bounds-ask-end : goal.slice_bounds-ask-end
slice_bounds-ask-end c = search (rules, read_within)

pub slice_bounds-ask-end-in-Asks : goal.slice_bounds-ask-end-in-Asks
slice_bounds-ask-end-in-Asks c = search (rules, read_whole)

pub ask-said-requires : goal.ask-said-requires
ask-said-requires c =
    let read = c.read_line-read in
    (ask_inside _ _ read.result read.ensures _ c.in-Asks.is, omega (arith, c.loop-at.invariant.1, c.requires.1), search rules)

pub overflow_add-written-in-Asks : goal.overflow_add-written-in-Asks
overflow_add-written-in-Asks c =
    let loop = c.loop-at in
    let said = c.ask-said in
    omega (arith, loop.invariant.2.size, c.well_formed.1.1.1.1.0.0, placed_within loop.out said.new.out _ loop.written said.result.written loop.invariant.2.within said.auto.out said.ensures.text)

pub loop-at-smaller-in-Asks : goal.loop-at-smaller-in-Asks
loop-at-smaller-in-Asks c = omega (arith, forward (goal.at.loop-at-smaller-in-Asks c).After-take_part-part, c.loop-at-test.true)

pub loop-at-preserved-in-Asks : goal.loop-at-preserved-in-Asks
loop-at-preserved-in-Asks c =
    let here = c.loop-at-test.true in
    let loop = c.loop-at in
    let enough = c.if-out-written-lt-ANSWER.false in
    let took = c.take_part-part in
    let skips = c.skips.ensures in
    let left = c.if-skips.false in
    let read = c.read_line-read in
    let said = c.ask-said in
    (took.auto.line ∙ loop.invariant.0, said.auto.bytes ∙ loop.invariant.1, turn_answered (list_teller call_list) _ _ _ _ _ _ _ _ _ _ here took.result _ took.ensures loop.invariant.2 enough c.if-not-part.false _ _ said.auto.out _ c.nothing-held-in-loop-at.ensures _ _ (ask_came loop.judge loop.ended _ _ _ skips left read.result read.ensures _ c.in-Asks.is _ said.ensures.ended_value) said.ensures.text)

pub slice_bounds-run-end : goal.slice_bounds-run-end
slice_bounds-run-end c = search (rules, read_within)

pub slice_bounds-run-end-in-Runs : goal.slice_bounds-run-end-in-Runs
slice_bounds-run-end-in-Runs c = search (rules, read_whole)

pub run-run-requires : goal.run-run-requires
run-run-requires c =
    let read = c.read_line-read in
    (run_inside _ _ read.result read.ensures _ c.in-Runs.is, omega (arith, c.loop-at.invariant.1, c.requires.1), search rules)

pub overflow_add-written-in-Runs : goal.overflow_add-written-in-Runs
overflow_add-written-in-Runs c =
    let loop = c.loop-at in
    let said = c.run-run in
    omega (arith, loop.invariant.2.size, c.well_formed.1.1.1.1.0.0, placed_within loop.out said.new.out _ loop.written said.result.written loop.invariant.2.within said.auto.out said.ensures.text)

pub loop-at-smaller : goal.loop-at-smaller
loop-at-smaller c = omega (arith, forward (goal.at.loop-at-smaller c).After-take_part-part, c.loop-at-test.true)

pub loop-at-preserved : goal.loop-at-preserved
loop-at-preserved c =
    let here = c.loop-at-test.true in
    let loop = c.loop-at in
    let enough = c.if-out-written-lt-ANSWER.false in
    let took = c.take_part-part in
    let skips = c.skips.ensures in
    let left = c.if-skips.false in
    let read = c.read_line-read in
    let said = c.run-run in
    (took.auto.line ∙ loop.invariant.0, said.auto.bytes ∙ loop.invariant.1, turn_answered (list_teller call_list) _ _ _ _ _ (list_of loop.judge loop.ended) _ _ _ _ here took.result _ took.ensures loop.invariant.2 enough c.if-not-part.false _ _ said.auto.out _ c.nothing-held-in-loop-at.ensures (list_of said.result.judge said.result.ended) _ (run_came loop.judge loop.ended _ _ _ skips left read.result read.ensures _ c.in-Runs.is _ _ said.ensures.ended_value) said.ensures.text)

pub returns-after-loop-at : goal.returns-after-loop-at
returns-after-loop-at c =
    let loop = c.loop-at in
    record { gathers = ended call_lines _ _ _ _ _ _ _ _ loop.invariant.2 (at_over call_lines _ _ _ _ c.loop-at-test.false); scratch = loop.invariant.1 }

pub returns-then-out-written-lt-ANSWER : goal.returns-then-out-written-lt-ANSWER
returns-then-out-written-lt-ANSWER c =
    let loop = c.loop-at in
    record { gathers = ended call_lines _ _ _ _ _ _ _ _ loop.invariant.2 (gather_short call_lines _ _ _ c.if-out-written-lt-ANSWER.true); scratch = loop.invariant.1 }
