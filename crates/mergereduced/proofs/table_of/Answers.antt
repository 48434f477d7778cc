-- `table_of` meets its contract: the cells below `cell` are those of the result. Assumes nothing.
use mathlib.Core.Path.{◌≡◌, ◌∙◌}
use Prim.Native.Nat.{ℕ, ◌<◌}
use native.Mathlib.Omega.{arith}
use lib.ListN.{length, length-set, length-replicate}
use Rattle.base.proofs.Lists.{is_list_from, cell_stored}
use Rattle.merging.specs.Merged.{targets_of}
use Rattle.mergereduced.specs.mirror.Asked.{cell_in}
use Rattle.mergereduced.proofs.table_of.Goals as goal

pub loop-cell-init : goal.loop-cell-init
loop-cell-init c = (length-replicate {A = ℕ} 512 0, λ i l. absurd (omega arith))

pub loop-cell-preserved : goal.loop-cell-preserved
loop-cell-preserved c =
    let x = c.loop-cell in
    let a = c.args in
    let g : ℕ → ℕ = cell_in (targets_of a.way a.n1 a.n2 a.t1.now a.t2.now) a.list.now a.c in
    let l : x.cell < length x.mask-items = omega arith in (
      length-set x.mask-items x.cell c.cell_of.result ∙ x.invariant.0,
      cell_stored x.mask-items g x.cell c.cell_of.result l c.cell_of.ensures x.invariant.1,
    )

pub returns : goal.returns
returns c =
    let x = c.loop-cell in
    let a = c.args in
    let e : x.cell ≡ 512 = omega arith in
    is_list_from x.mask-items 512 (cell_in (targets_of a.way a.n1 a.n2 a.t1.now a.t2.now) a.list.now a.c) x.invariant.0
    (λ i l. x.invariant.1 i (omega arith))
