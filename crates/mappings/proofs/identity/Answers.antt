-- `identity` meets its contract, mask by mask. Assumes nothing.
use mathlib.Core.Path.{refl, ◌∙◌}
use mathlib.Core.Bool.{cond}
use native.Mathlib.Omega.{arith}
use lib.ListN.{length-set}
use lib.Dec.{ltb}
use Rattle.base.proofs.Lists.{cell_stored, is_list_from}
use Rattle.masks.specs.Masks.{single}
use Rattle.mappings.proofs.identity.Goals as goal

pub loop-q-init : goal.loop-q-init
loop-q-init c = (omega arith, refl, λ i b. absurd (omega arith))

pub loop-q-preserved : goal.loop-q-preserved
loop-q-preserved c =
    let x = c.loop-q in
    let a = c.args in (
      omega arith,
      length-set x.mask-items x.q c.own_set.result ∙ x.invariant.1,
      cell_stored x.mask-items (λ i. cond (ltb i a.n) (single i) 0) x.q c.own_set.result (omega (arith, x.invariant.1)) c.own_set.ensures x.invariant.2,
    )

pub returns : goal.returns
returns c =
    let x = c.loop-q in
    let a = c.args in
    is_list_from x.mask-items 8 (λ i. cond (ltb i a.n) (single i) 0) x.invariant.1 (λ i b. x.invariant.2 i (omega arith))
