-- `live_states` meets its contract. Where a round adds nothing, no later one does. Assumes nothing.
use mathlib.Core.Path.{◌≡◌, refl, sym, ap, ◌∙◌}
use native.Mathlib.Omega.{arith}
use Rattle.masks.specs.Turns.{turns}
use Rattle.masks.proofs.Turns.{turns_more, turns_whole}
use Rattle.live.specs.Live.{back_to, within}
use Rattle.live.proofs.live_states.Goals as goal

pub loop-round-init : goal.loop-round-init
unfolding turns
loop-round-init c =
    refl

pub returns-then-more-live : goal.returns-then-more-live
returns-then-more-live c =
    let l = c.loop-round in
    let a = c.args in
    turns_whole (back_to a.targets.now) a.finals 32 l._round l.live l.invariant (omega arith) (sym c.back_to-more.ensures ∙ c.if-more-live.true)

pub loop-round-preserved : goal.loop-round-preserved
loop-round-preserved c =
    let l = c.loop-round in
    let a = c.args in
    c.back_to-more.ensures ∙ turns_more (back_to a.targets.now) a.finals l._round l.live l.invariant

pub returns : goal.returns
returns c =
    let l = c.loop-round in
    let a = c.args in
    let e : l._round ≡ 32 = omega arith in
    l.invariant ∙ ap (within a.targets.now a.finals) e
