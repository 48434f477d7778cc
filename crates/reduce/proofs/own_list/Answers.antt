-- `own_list` meets its contract: each cell below q has its own number. Assumes nothing.
use mathlib.Core.Path.{◌≡◌, refl, ◌∙◌}
use Prim.Native.Nat.{ℕ, ◌<◌}
use native.Mathlib.Omega.{arith}
use lib.ListN.{length, length-set, length-replicate}
use Rattle.base.proofs.Lists.{is_list_from, cell_stored}
use Rattle.reduce.proofs.own_list.Goals as goal

pub loop-q-init : goal.loop-q-init
loop-q-init c = (length-replicate {A = ℕ} 32 0, λ i l. absurd (omega arith))

pub loop-q-preserved : goal.loop-q-preserved
loop-q-preserved c =
    let x = c.loop-q in
    let l : x.q < length x.delegate-items = omega arith in (
      length-set x.delegate-items x.q x.q ∙ x.invariant.0,
      cell_stored x.delegate-items (λ i. i) x.q x.q l refl x.invariant.1,
    )

pub returns : goal.returns
returns c =
    let x = c.loop-q in
    let e : x.q ≡ 32 = omega arith in
    is_list_from x.delegate-items 32 (λ i. i) x.invariant.0 (λ i l. x.invariant.1 i (omega arith))
