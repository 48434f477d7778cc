-- `chosen_list` meets its contract: the cells below q are done. Assumes nothing.
use mathlib.Core.Path.{◌≡◌, ◌∙◌}
use Prim.Native.Nat.{ℕ, ◌<◌}
use native.Mathlib.Omega.{arith}
use lib.ListN.{length, length-set, length-replicate}
use Rattle.base.proofs.Lists.{is_list_from, cell_stored}
use Rattle.reducing.specs.Reduced.{chosen_cell}
use Rattle.reduce.proofs.chosen_list.Goals as goal

pub loop-q-init : goal.loop-q-init
loop-q-init c = (length-replicate {A = ℕ} 32 0, λ i l. absurd (omega arith))

pub loop-q-preserved : goal.loop-q-preserved
loop-q-preserved c =
    let x = c.loop-q in
    let a = c.args in
    let l : x.q < length x.delegate-items = omega arith in (
      length-set x.delegate-items x.q c.chosen_cell.result ∙ x.invariant.0,
      cell_stored x.delegate-items (chosen_cell a.delegates.now a.reached) x.q c.chosen_cell.result l c.chosen_cell.ensures x.invariant.1,
    )

pub returns : goal.returns
returns c =
    let x = c.loop-q in
    let a = c.args in
    let e : x.q ≡ 32 = omega arith in
    is_list_from x.delegate-items 32 (chosen_cell a.delegates.now a.reached) x.invariant.0 (λ i l. x.invariant.1 i (omega arith))
