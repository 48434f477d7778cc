-- `both_of` meets its contract: the cells below q are done. Assumes nothing.
use mathlib.Core.Path.{◌≡◌, ◌∙◌}
use Prim.Native.Nat.{ℕ, ◌<◌}
use native.Mathlib.Omega.{arith}
use lib.ListN.{length, length-set, length-replicate}
use Rattle.base.proofs.Lists.{cell_stored}
use Rattle.masks.specs.Masks.{bit}
use Rattle.mergereduced.proofs.Cells.{set_few, set_made}
use lib.Bits.{bit_and}
use Rattle.masks.proofs.Laws.{and_members}
use Rattle.mergereduced.specs.mirror.Asked.{set_in}
use Rattle.mergereduced.proofs.both_of.Goals as goal

pub loop-q-init : goal.loop-q-init
loop-q-init c = (length-replicate {A = ℕ} 1024 0, λ i l. absurd (omega arith))

pub both_cell-requires : goal.both_cell-requires
both_cell-requires c = omega (arith, c.loop-q.invariant.0)

pub loop-q-preserved : goal.loop-q-preserved
loop-q-preserved c =
    let x = c.loop-q in
    let a = c.args in
    let l : x.q < length x.member-items = omega arith in (
      length-set x.member-items x.q c.both_cell.result ∙ x.invariant.0,
      cell_stored x.member-items (bit (bit_and (set_in a.a.now) (set_in a.b.now))) x.q c.both_cell.result l c.both_cell.ensures x.invariant.1,
    )

pub returns : goal.returns
returns c =
    let x = c.loop-q in
    let a = c.args in
    let e : x.q ≡ 1024 = omega arith in
    set_made x.member-items (bit_and (set_in a.a.now) (set_in a.b.now))
    (λ q e. set_few a.a.now q ((and_members (set_in a.a.now) (set_in a.b.now) q).0 e).0)
    (λ i l. x.invariant.1 i (omega arith))
