-- `start_mask` meets its contract. The loop's invariant: the set has the starts below q. Assumes
-- nothing.
use mathlib.Core.Path.{◌≡◌, refl, ap, ap₂, ◌∙◌}
use Prim.Native.Nat.{min}
use native.Mathlib.Omega.{arith}
use lib.Bits.{bit_or}
use Rattle.delegates.specs.Alike.{start_set}
use Rattle.chunks.proofs.Starts.{start_more, start_other}
use Rattle.chunks.proofs.start_mask.Goals.{else-delegates-i, then-delegates-i}
use Rattle.chunks.proofs.start_mask.Goals as goal

pub loop-q-init : goal.loop-q-init
unfolding start_set
loop-q-init c = refl

pub loop-q-preserved : goal.loop-q-preserved
loop-q-preserved c =
    let l = c.loop-q in
    let d = c.args.delegates in
    (elim c.if-delegates-i.branch [
      | then-delegates-i w ↦ w.starts-is ∙ w.union-starts.ensures ∙ ap₂ bit_or l.invariant w.singleton.ensures ∙ start_more d l.q w.if-delegates-i.true
      | else-delegates-i w ↦ w.starts-is ∙ l.invariant ∙ start_other d l.q w.if-delegates-i.false
    ])

pub returns : goal.returns
returns c =
    let l = c.loop-q in
    let e : l.q ≡ min c.args.n 32 = omega arith in
    l.invariant ∙ ap (start_set c.args.delegates) e
