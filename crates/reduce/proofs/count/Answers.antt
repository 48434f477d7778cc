-- `count` meets its contract. The loop's invariant: `out` counts the members below p. Assumes
-- nothing.
use mathlib.Core.Path.{◌≡◌, refl, sym, ap, ◌∙◌}
use Prim.Native.Nat.{ℕ, ◌+◌}
use native.Mathlib.Omega.{arith}
use Rattle.base.specs.Totals.{total}
use Rattle.masks.specs.Turns.{rank}
use Rattle.masks.proofs.Turns.{rank_most}
use Rattle.reduce.proofs.Ways.{count_more, count_skip}
use Rattle.reduce.proofs.count.Goals.{else-member, then-member}
use Rattle.reduce.proofs.count.Goals as goal

pub loop-p-init : goal.loop-p-init
unfolding total
loop-p-init c = refl

pub overflow_add-out : goal.overflow_add-out
overflow_add-out c =
    let l = c.loop-p in
    let a = c.args in
    omega (arith, rank_most a.set l.p, l.invariant, c.requires)

pub loop-p-preserved : goal.loop-p-preserved
loop-p-preserved c =
    let l = c.loop-p in
    let a = c.args in
    elim c.if-member.branch [
      | then-member w ↦ w.out-is ∙ ap (λ (x : ℕ). x + 1) l.invariant ∙ count_more a.set l.p (sym c.member.ensures ∙ w.if-member.true)
      | else-member w ↦ w.out-is ∙ l.invariant ∙ count_skip a.set l.p (sym c.member.ensures ∙ w.if-member.false)
    ]

pub returns : goal.returns
returns c =
    let l = c.loop-p in
    let a = c.args in
    let e : l.p ≡ a.q = omega arith in
    l.invariant ∙ ap (rank a.set) e
