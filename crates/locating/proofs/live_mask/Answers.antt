-- `live_mask` meets its contract. The loop's invariant: the set has the live states below q. Assumes
-- nothing.
use mathlib.Core.Path.{◌≡◌, refl, ap, ap₂, ◌∙◌}
use Prim.Native.Nat.{min}
use native.Mathlib.Omega.{arith}
use lib.Bits.{bit_or}
use Rattle.locating.specs.mirror.Pruning.{live_set}
use Rattle.locating.proofs.Pruning.{live_more, live_other}
use Rattle.locating.proofs.live_mask.Goals.{else-delegates-i-lt-NO_DELEGATE, then-delegates-i-lt-NO_DELEGATE}
use Rattle.locating.proofs.live_mask.Goals as goal

pub loop-q-init : goal.loop-q-init
unfolding live_set
loop-q-init c = refl

pub loop-q-preserved : goal.loop-q-preserved
loop-q-preserved c =
    let l = c.loop-q in
    let d = c.args.delegates in
    (elim c.if-delegates-i-lt-NO_DELEGATE.branch [
      | then-delegates-i-lt-NO_DELEGATE w ↦ w.live-is ∙ w.union-live.ensures ∙ ap₂ bit_or l.invariant w.singleton.ensures ∙ live_more d l.q w.if-delegates-i-lt-NO_DELEGATE.true
      | else-delegates-i-lt-NO_DELEGATE w ↦ w.live-is ∙ l.invariant ∙ live_other d l.q w.if-delegates-i-lt-NO_DELEGATE.false
    ])

pub returns : goal.returns
returns c =
    let l = c.loop-q in
    let e : l.q ≡ min c.args.n 32 = omega arith in
    l.invariant ∙ ap (live_set c.args.delegates) e
