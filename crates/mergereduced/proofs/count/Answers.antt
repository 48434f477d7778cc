-- `count` meets its contract. The loop's invariant: `out` counts the members below q. Assumes
-- nothing.
use mathlib.Core.Path.{◌≡◌, refl, ap, ◌∙◌}
use Prim.Native.Nat.{ℕ, ◌+◌, ◌<◌}
use native.Mathlib.Omega.{arith}
use Rattle.base.specs.Totals.{total}
use Rattle.masks.specs.Turns.{rank}
use Rattle.masks.proofs.Turns.{rank_most}
use Rattle.reduce.proofs.Ways.{count_more, count_skip}
use Rattle.mergereduced.specs.mirror.Asked.{set_in}
use Rattle.mergereduced.proofs.Cells.{cell_in, cell_out}
use Rattle.mergereduced.proofs.count.Goals.{else-set-q-eq1, then-set-q-eq1}
use Rattle.mergereduced.proofs.count.Goals as goal

pub loop-q-init : goal.loop-q-init
unfolding total
loop-q-init c =
    refl

pub overflow_add-out : goal.overflow_add-out
overflow_add-out c =
    let l = c.loop-q in
    let a = c.args in
    omega (arith, rank_most (set_in a.set.now) l.q, l.invariant, c.requires)

pub loop-q-preserved : goal.loop-q-preserved
loop-q-preserved c =
    let l = c.loop-q in
    let a = c.args in
    let h : l.q < 1024 = omega (arith, c.loop-q-test.true, c.requires) in
    elim c.if-set-q-eq1.branch [
      | then-set-q-eq1 w ↦ w.out-is ∙ ap (λ (x : ℕ). x + 1) l.invariant
          ∙ count_more (set_in a.set.now) l.q (cell_in a.set.now l.q h w.if-set-q-eq1.true)
      | else-set-q-eq1 w ↦ w.out-is ∙ l.invariant ∙ count_skip (set_in a.set.now) l.q (cell_out a.set.now l.q h w.if-set-q-eq1.false)
    ]

pub returns : goal.returns
returns c =
    let l = c.loop-q in
    let a = c.args in
    let e : l.q ≡ a.n = omega arith in
    l.invariant ∙ ap (rank (set_in a.set.now)) e
