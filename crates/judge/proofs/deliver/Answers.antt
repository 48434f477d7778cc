-- `deliver` meets its contract. Assumes nothing.
--
-- The route: each way out has its lemma (calls/proofs/Ways.antt, deliveries/proofs/Ways.antt): the
-- tests that failed before it in document 01's order, the test that held, and the answer. `search`
-- finds these tests among what is known at that place, where they are not too many.
use native.Mathlib.Omega.{arith}
use Rattle.calls.proofs.Ways.{deliver_21, deliver_11, deliver_12}
use Rattle.deliveries.proofs.Ways.{refused_attempt, kept_attempt}
use borrow.Author.Rules.{rules}
use Rattle.judge.proofs.deliver.Goals as goal

pub returns-then-judge-eq0 : goal.returns-then-judge-eq0
returns-then-judge-eq0 c = search (rules, deliver_21)

pub returns-then-places_of-place : goal.returns-then-places_of-place
returns-then-places_of-place c = search (rules, deliver_11)

pub returns-then-chunk-gt-CHUNK : goal.returns-then-chunk-gt-CHUNK
returns-then-chunk-gt-CHUNK c = search (rules, deliver_12)

pub returns-in-Err : goal.returns-in-Err
returns-in-Err c =
    refused_attempt _ _ _ _ c.if-judge-eq0.false _ c.places_of.ensures c.if-places_of-place.false c.if-chunk-gt-CHUNK.false
    _ c.run_mask-mask.ensures _ c.comes_late-late.ensures _ c.run_delivery-ran.ensures
    _ c.in-Err.is _ c.refuse_delivery-in-Err.ensures

pub set_revision-requires : goal.set_revision-requires
set_revision-requires c =
    omega (arith, c.if-places_of-place.false, c.places_of.ensures)

pub set_row-requires : goal.set_row-requires
set_row-requires c =
    omega (arith, c.if-places_of-place.false, c.places_of.ensures)

pub returns : goal.returns
returns c =
    kept_attempt _ _ _ _ c.if-judge-eq0.false _ c.places_of.ensures c.if-places_of-place.false c.if-chunk-gt-CHUNK.false
    _ c.run_mask-mask.ensures _ c.comes_late-late.ensures _ c.run_delivery-ran.ensures
    _ c.in-Ok.is _ c.set_number.ensures _ c.set_number-2.ensures _ c.set_number-3.ensures
    _ c.set_revision.ensures _ c.set_row.ensures
