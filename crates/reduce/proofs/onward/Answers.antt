-- `onward` meets its contract. The loop's invariant: `found` is gathered from the symbols below s.
-- Assumes nothing.
use mathlib.Core.Path.{◌≡◌, refl, ap, ◌∙◌}
use Prim.Native.Nat.{ℕ}
use native.Mathlib.Omega.{arith}
use lib.Bits.{bit_or}
use Rattle.automaton.specs.Successor.{successor}
use Rattle.reducing.specs.Reduced.{gather, delegated}
use Rattle.reduce.proofs.Ways.{gather_more}
use Rattle.reduce.proofs.onward.Goals as goal

pub loop-s-init : goal.loop-s-init
unfolding gather
loop-s-init c = refl

pub loop-s-preserved : goal.loop-s-preserved
loop-s-preserved c =
    let l = c.loop-s in
    let a = c.args in
    let f : ℕ → ℕ = λ x. delegated a.delegates.now (successor a.targets.now a.set x) in
    gather_more f l.s l.found c.delegated.result c.union-found.result l.invariant
    (c.delegated.ensures ∙ ap (delegated a.delegates.now) c.successor-reached.ensures)
    c.union-found.ensures

pub returns : goal.returns
returns c =
    let l = c.loop-s in
    let a = c.args in
    let e : l.s ≡ 16 = omega arith in
    c.union.ensures
    ∙ ap (bit_or a.set) (l.invariant ∙ ap (gather (λ x. delegated a.delegates.now (successor a.targets.now a.set x))) e)
