-- `find_loss` meets its contract: C is joined up to the place, and what is found from there on is what
-- is found. Assumes nothing.
use mathlib.Core.Path.{◌≡◌, refl}
use native.Mathlib.Omega.{arith}
use borrow.Author.Tests.{eq-eqb, ne_eqb}
use Rattle.joins.specs.Joining.{join_of}
use Rattle.joins.proofs.Places.{place_more}
use Rattle.diagnoses.proofs.Finding.{find_start, find_empty, find_lost, find_past, find_end, none_live, some_live}
use Rattle.diagnoses.proofs.find_loss.Goals as goal

pub loop-place-init : goal.loop-place-init
unfolding join_of
loop-place-init c = (refl, find_start _ _ _)

pub returns-then-filled-place-eq0 : goal.returns-then-filled-place-eq0
returns-then-filled-place-eq0 c =
    let x = c.loop-place in
    find_empty _ _ x.place _ _ x.invariant.1 c.loop-place-test.true (eq-eqb _ _ c.if-filled-place-eq0.true)

pub returns-then-delegate_mask-eq0 : goal.returns-then-delegate_mask-eq0
returns-then-delegate_mask-eq0 c =
    let x = c.loop-place in
    let s = c.min-states in
    let a = c.args in
    let more = place_more a.ends.now a.delegates a.n a.initials x.place s.result x.set c.join_place-set.result s.ensures x.invariant.0
    c.join_place-set.ensures in
    find_lost _ _ x.place _ _ x.invariant.1 c.loop-place-test.true (ne_eqb _ _ c.if-filled-place-eq0.false)
    (none_live a.filled.now a.ends.now a.delegates a.n a.initials x.place c.join_place-set.result c.delegate_mask.result more
    c.delegate_mask.ensures
    c.if-delegate_mask-eq0.true)

pub loop-place-preserved : goal.loop-place-preserved
loop-place-preserved c =
    let x = c.loop-place in
    let s = c.min-states in
    let a = c.args in
    let more = place_more a.ends.now a.delegates a.n a.initials x.place s.result x.set c.join_place-set.result s.ensures x.invariant.0
    c.join_place-set.ensures in (
      more,
      find_past _ _ x.place _ _ x.invariant.1 c.loop-place-test.true (ne_eqb _ _ c.if-filled-place-eq0.false)
          (some_live a.filled.now a.ends.now a.delegates a.n a.initials x.place c.join_place-set.result c.delegate_mask.result more
          c.delegate_mask.ensures
          c.if-delegate_mask-eq0.false),
    )

pub returns : goal.returns
returns c =
    let x = c.loop-place in
    let e : x.place ≡ c.args.places = omega arith in
    rw e at (find_end _ _ x.place _ _ x.invariant.1 c.loop-place-test.false)
