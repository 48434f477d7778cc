-- `join_places` meets its contract: the set is C after the places passed. Assumes nothing.
use mathlib.Core.Path.{◌≡◌, refl}
use native.Mathlib.Omega.{arith}
use Rattle.joins.specs.Joining.{join_of}
use Rattle.joins.proofs.Places.{place_more}
use Rattle.joins.proofs.join_places.Goals as goal

pub loop-place-init : goal.loop-place-init
unfolding join_of
loop-place-init c = refl

pub loop-place-preserved : goal.loop-place-preserved
loop-place-preserved c =
    let x = c.loop-place in
    let s = c.min-states in
    let a = c.args in
    place_more a.ends.now a.delegates.now a.n a.initials x.place s.result x.set c.join_place-set.result s.ensures x.invariant
    c.join_place-set.ensures

pub returns : goal.returns
returns c =
    let x = c.loop-place in
    let e : x.place ≡ c.args.places = omega arith in
    rw (← e) x.invariant
