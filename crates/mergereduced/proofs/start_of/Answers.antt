-- `start_of` meets its contract: the cells below q are done. Assumes nothing.
use mathlib.Core.Path.{◌≡◌, ◌∙◌}
use Prim.Native.Nat.{ℕ, ◌<◌}
use native.Mathlib.Omega.{arith}
use lib.ListN.{length, length-set, length-replicate}
use Rattle.base.proofs.Lists.{cell_stored}
use Rattle.masks.specs.Masks.{bit}
use Rattle.mergereduced.proofs.Cells.{set_made}
use Rattle.merging.specs.Merged.{set_of}
use Rattle.mergereduced.proofs.Ways.{states_most, set_small}
use Rattle.mergereduced.proofs.start_of.Goals as goal

pub loop-q-init : goal.loop-q-init
loop-q-init c = (length-replicate {A = ℕ} 1024 0, λ i l. absurd (omega arith))

pub start_cell-requires : goal.start_cell-requires
start_cell-requires c = c.requires

pub loop-q-preserved : goal.loop-q-preserved
loop-q-preserved c =
    let x = c.loop-q in
    let a = c.args in
    let l : x.q < length x.member-items = omega arith in (
      length-set x.member-items x.q c.start_cell.result ∙ x.invariant.0,
      cell_stored x.member-items (bit (set_of a.way a.n1 a.n2 a.a a.b)) x.q c.start_cell.result l c.start_cell.ensures x.invariant.1,
    )

pub returns : goal.returns
returns c =
    let x = c.loop-q in
    let a = c.args in
    let g = c.requires in
    let e : x.q ≡ 1024 = omega arith in
    set_made x.member-items (set_of a.way a.n1 a.n2 a.a a.b)
    (λ q e.
    let l = set_small a.way a.n1 a.n2 a.a a.b g.0 g.1 q e in
    omega (arith, l, states_most a.way a.n1 a.n2 g.1))
    (λ i l. x.invariant.1 i (omega arith))
