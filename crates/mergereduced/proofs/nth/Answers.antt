-- `nth` meets its contract. Assumes nothing.
use mathlib.Core.Path.{◌≡◌, refl, sym, ap, ◌∙◌}
use mathlib.Core.Bool.{◌&&◌}
use Prim.Native.Nat.{ℕ, ◌+◌, ◌-◌, ◌<◌}
use native.Mathlib.Omega.{arith}
use lib.Dec.{eqb}
use Rattle.base.specs.Totals.{total}
use Rattle.masks.specs.Masks.{has}
use Rattle.masks.specs.Turns.{rank}
use Rattle.masks.proofs.Turns.{rank_most}
use Rattle.delegates.specs.mirror.Classes.{first_from}
use Rattle.delegates.proofs.Tests.{first_here, first_past, first_end}
use Rattle.reduce.proofs.Ways.{count_more, count_skip}
use Rattle.mergereduce.specs.Trimmed.{nth}
use Rattle.mergereduced.specs.mirror.Asked.{set_in}
use Rattle.mergereduced.proofs.Cells.{cell_in, cell_out}
use Rattle.mergereduced.proofs.Ways.{nth_there, nth_other, nth_out}
use Rattle.mergereduced.proofs.nth.Goals.{else-set-q-eq1, then-set-q-eq1+else-below-p}
use Rattle.mergereduced.proofs.nth.Goals as goal

pub loop-q-init : goal.loop-q-init
unfolding total
loop-q-init c = let a = c.args in let all : a.n ≡ a.n - 0 = omega arith in (refl, ap (first_from (λ x. has (set_in a.set.now) x && eqb (rank (set_in a.set.now) x) a.p) 0) all)

pub returns-then-below-p : goal.returns-then-below-p
unfolding nth
returns-then-below-p c = let l = c.loop-q in let a = c.args in let h : l.q < 1024 = omega (arith, c.loop-q-test.true, c.requires) in first_here (λ x. has (set_in a.set.now) x && eqb (rank (set_in a.set.now) x) a.p) l.q a.n c.loop-q-test.true (nth_there (set_in a.set.now) l.q a.p l.below l.invariant.0 (cell_in a.set.now l.q h c.if-set-q-eq1.true) c.if-below-p.true) ∙ sym l.invariant.1

pub overflow_add-below : goal.overflow_add-below
overflow_add-below c = let l = c.loop-q in let a = c.args in omega (arith, rank_most (set_in a.set.now) l.q, l.invariant.0, c.requires)

pub loop-q-preserved : goal.loop-q-preserved
loop-q-preserved c =
    let l = c.loop-q in
    let a = c.args in
    let h : l.q < 1024 = omega (arith, c.loop-q-test.true, c.requires) in (
      (elim c.if-set-q-eq1.branch [
        | then-set-q-eq1+else-below-p w ↦ w.below-is ∙ ap (λ (x : ℕ). x + 1) l.invariant.0
            ∙ count_more (set_in a.set.now) l.q (cell_in a.set.now l.q h w.if-set-q-eq1.true)
        | else-set-q-eq1 w ↦ w.below-is ∙ l.invariant.0 ∙ count_skip (set_in a.set.now) l.q (cell_out a.set.now l.q h w.if-set-q-eq1.false)
      ]),
      l.invariant.1
          ∙ first_past (λ x. has (set_in a.set.now) x && eqb (rank (set_in a.set.now) x) a.p) l.q a.n c.loop-q-test.true
          ((elim c.if-set-q-eq1.branch [
            | then-set-q-eq1+else-below-p w ↦ nth_other (set_in a.set.now) l.q a.p l.below l.invariant.0 w.if-below-p.false
            | else-set-q-eq1 w ↦ nth_out (set_in a.set.now) l.q a.p (cell_out a.set.now l.q h w.if-set-q-eq1.false)
          ])),
    )

pub returns : goal.returns
unfolding nth
returns c =
    let l = c.loop-q in
    let a = c.args in
    let e : a.n ≡ l.q = omega arith in
    e ∙ first_end (λ x. has (set_in a.set.now) x && eqb (rank (set_in a.set.now) x) a.p) l.q a.n (omega arith) ∙ sym l.invariant.1
