-- `sum_up` meets its contract: the numbers before p are summed, and each is below 2 ^ 32. Assumes
-- nothing.
use mathlib.Core.Path.{◌≡◌, refl, sym, ap₂, ◌∙◌}
use Prim.Native.Nat.{ℕ, ◌+◌}
use native.Mathlib.Omega.{arith}
use lib.ListN.{get_or}
use Rattle.base.specs.Totals.{total}
use Rattle.base.proofs.Totals.{total_more}
use Rattle.board.proofs.sum_up.Goals as goal

pub loop-p-init : goal.loop-p-init
unfolding total
loop-p-init c = (omega arith, refl)

pub loop-p-preserved : goal.loop-p-preserved
loop-p-preserved c =
    let x = c.loop-p in
    let a = c.args in
    let f : ℕ → ℕ = λ i. get_or a.numbers.now i 0 in (
      omega arith,
      ap₂ (λ (y z : ℕ). y + z) x.invariant.1 c.wide-sum.ensures.0 ∙ sym (total_more f x.p),
    )

pub returns : goal.returns
returns c =
    let x = c.loop-p in
    let e : x.p ≡ c.args.n = omega arith in
    rw (← e) x.invariant.1
