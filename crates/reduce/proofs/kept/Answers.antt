-- `kept` meets its contract. Where a round adds nothing, no later one does. Assumes nothing.
use mathlib.Core.Path.{◌≡◌, sym, ap, ◌∙◌}
use native.Mathlib.Omega.{arith}
use Rattle.masks.specs.Turns.{turns}
use Rattle.masks.proofs.Turns.{turns_more, turns_whole}
use Rattle.reducing.specs.Reduced.{delegated, onward, rounds}
use Rattle.reduce.proofs.kept.Goals as goal

pub loop-round-init : goal.loop-round-init
unfolding turns
loop-round-init c =
    c.delegated-set.ensures

pub returns-then-more-set : goal.returns-then-more-set
returns-then-more-set c =
    let l = c.loop-round in
    let a = c.args in
    turns_whole (onward a.targets.now a.delegates.now) (delegated a.delegates.now a.initials) 32 l._round l.set l.invariant (omega arith)
    (sym c.onward-more.ensures ∙ c.if-more-set.true)

pub loop-round-preserved : goal.loop-round-preserved
loop-round-preserved c =
    let l = c.loop-round in
    let a = c.args in
    c.onward-more.ensures
    ∙ turns_more (onward a.targets.now a.delegates.now) (delegated a.delegates.now a.initials) l._round l.set l.invariant

pub returns : goal.returns
returns c =
    let l = c.loop-round in
    let a = c.args in
    let e : l._round ≡ 32 = omega arith in
    l.invariant ∙ ap (rounds a.targets.now a.delegates.now (delegated a.delegates.now a.initials)) e
