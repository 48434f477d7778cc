-- `join_place` meets its contract: the union over the members below q. Assumes nothing.
use mathlib.Core.Path.{◌≡◌, refl, sym, ◌∙◌}
use native.Mathlib.Omega.{arith}
use Rattle.masks.specs.Masks.{union}
use Rattle.delegates.proofs.Answer.{told_state, told_none}
use Rattle.joins.proofs.Places.{no_member_here, passed_over, one_more}
use Rattle.joins.proofs.join_place.Goals as goal

pub loop-q-init : goal.loop-q-init
unfolding union
loop-q-init c = (omega arith, refl)

pub loop-q-preserved-in_default : goal.loop-q-preserved-in_default
loop-q-preserved-in_default c =
    let d = c.delegate_at in
    let x = c.loop-q in
    let a = c.args in (
      omega arith,
      passed_over a.ends.now a.delegates.now a.set a.place x.q x.joined x.invariant.1
          (sym c.member.ensures ∙ c.if-member.true)
          (told_none a.delegates.now x.q d.result d.ensures c.in_default.is),
    )

pub end_set-requires : goal.end_set-requires
end_set-requires c =
    let d = c.delegate_at in
    let a = c.args in
    let low = (told_state a.delegates.now c.loop-q.q d.result d.ensures c.in-State.delegate c.in-State.is).1 in
    (omega arith, omega arith)

pub loop-q-preserved-then-member : goal.loop-q-preserved-then-member
loop-q-preserved-then-member c =
    let d = c.delegate_at in
    let x = c.loop-q in
    let a = c.args in (
      omega arith,
      one_more a.ends.now a.delegates.now a.set a.place x.q x.joined x.invariant.1
          (sym c.member.ensures ∙ c.if-member.true)
          c.in-State.delegate.0
          c.end_set.result
          c.union-joined.result
          (told_state a.delegates.now x.q d.result d.ensures c.in-State.delegate c.in-State.is).0
          c.end_set.ensures
          c.union-joined.ensures,
    )

pub loop-q-preserved : goal.loop-q-preserved
loop-q-preserved c =
    let x = c.loop-q in
    let a = c.args in (
      omega arith,
      no_member_here a.ends.now a.delegates.now a.set a.place x.q x.joined x.invariant.1
          (sym c.member.ensures ∙ c.if-member.false),
    )

pub returns : goal.returns
returns c =
    let x = c.loop-q in
    let e : x.q ≡ c.args.n = omega arith in
    rw (← e) x.invariant.1
