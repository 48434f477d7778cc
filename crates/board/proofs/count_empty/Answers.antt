-- `count_empty` meets its contract: the empty marks before p are counted. Assumes nothing.
use mathlib.Core.Path.{◌≡◌, refl, sym, ap, ◌∙◌}
use mathlib.Core.Bool.{cond}
use Prim.Native.Nat.{ℕ, ◌+◌}
use native.Mathlib.Omega.{arith}
use lib.Dec.{eqb}
use lib.ListN.{get_or}
use borrow.Author.Tests.{eq-eqb, ne_eqb}
use Rattle.base.specs.Totals.{total}
use Rattle.base.proofs.Tests.{one_most}
use Rattle.base.proofs.Totals.{total_more}
use Rattle.board.proofs.count_empty.Goals.{else-filled-p-eq0, then-filled-p-eq0}
use Rattle.board.proofs.count_empty.Goals as goal

pub loop-p-init : goal.loop-p-init
unfolding total
loop-p-init g c = (omega arith, refl)

pub loop-p-preserved : goal.loop-p-preserved
loop-p-preserved g c =
    let x = c.loop-p in
    let a = c.args in
    let mark : ℕ = get_or a.filled.now x.p 0 in
    let counted : c.if-filled-p-eq0.empty ≡ x.empty + cond (eqb mark 0) 1 0 =
    (elim c.if-filled-p-eq0.branch [
      | then-filled-p-eq0 w ↦ w.empty-is ∙ rw (eq-eqb mark 0 w.if-filled-p-eq0.true)
      | else-filled-p-eq0 w ↦ w.empty-is ∙ rw (ne_eqb mark 0 w.if-filled-p-eq0.false) (omega arith)
    ]) in (
      omega (arith, counted, one_most (eqb mark 0)),
      counted
          ∙ ap (λ (y : ℕ). y + cond (eqb mark 0) 1 0) x.invariant.1
          ∙ sym (total_more (λ i. cond (eqb (get_or a.filled.now i 0) 0) 1 0) x.p),
    )

pub returns : goal.returns
returns g c =
    let x = c.loop-p in
    let e : x.p ≡ c.args.n = omega arith in
    rw (← e) x.invariant.1
