-- `symbols_of` meets its contract: the cells below `cell` are filled. Assumes nothing.
use mathlib.Core.Path.{◌≡◌, ◌∙◌}
use Prim.Native.Nat.{ℕ, ◌/◌, ◌%◌, ◌<◌}
use native.Mathlib.Omega.{arith}
use lib.ListN.{length, length-set, length-replicate}
use Rattle.base.proofs.Lists.{is_list_from, cell_stored}
use Rattle.mergereduced.specs.mirror.Asked.{symbols_to}
use Rattle.mergereduced.proofs.symbols_of.Goals as goal

pub loop-cell-init : goal.loop-cell-init
loop-cell-init c = (length-replicate {A = ℕ} 1024 0, λ i l. absurd (omega arith))

pub loop-cell-preserved : goal.loop-cell-preserved
loop-cell-preserved c =
    let x = c.loop-cell in
    let a = c.args in
    let g : ℕ → ℕ = λ i. symbols_to a.t.now (i / 32) (i % 32) in
    let l : x.cell < length x.symbols-items = omega (arith, x.invariant.0, c.loop-cell-test.true) in (
      length-set x.symbols-items x.cell c.symbols_to.result ∙ x.invariant.0,
      cell_stored x.symbols-items g x.cell c.symbols_to.result l c.symbols_to.ensures x.invariant.1,
    )

pub returns : goal.returns
returns c =
    let x = c.loop-cell in
    let a = c.args in
    let e : x.cell ≡ 1024 = omega arith in
    is_list_from x.symbols-items 1024 (λ i. symbols_to a.t.now (i / 32) (i % 32)) x.invariant.0 (λ i l. x.invariant.1 i (omega arith))
