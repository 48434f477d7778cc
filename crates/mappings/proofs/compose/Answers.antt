-- `compose` meets its contract, cell by cell. Assumes nothing.
use mathlib.Core.Path.{refl, ◌∙◌}
use native.Mathlib.Omega.{arith}
use lib.ListN.{get_or, length-set}
use Rattle.base.proofs.Lists.{cell_stored, is_list_from}
use Rattle.mappings.specs.Mappings.{image}
use Rattle.mappings.proofs.compose.Goals as goal

pub loop-q-init : goal.loop-q-init
loop-q-init c = (omega arith, refl, λ i b. absurd (omega arith))

pub loop-q-preserved : goal.loop-q-preserved
loop-q-preserved c =
    let x = c.loop-q in
    let a = c.args in (
      omega arith,
      length-set x.mask-items x.q c.image.result ∙ x.invariant.1,
      cell_stored x.mask-items (λ i. image a.later.masks (get_or a.earlier.masks i 0)) x.q c.image.result (omega (arith, x.invariant.1)) c.image.ensures x.invariant.2,
    )

pub returns : goal.returns
returns c =
    let x = c.loop-q in
    let a = c.args in
    is_list_from x.mask-items 8 (λ i. image a.later.masks (get_or a.earlier.masks i 0)) x.invariant.1 (λ i b. x.invariant.2 i (omega arith))
