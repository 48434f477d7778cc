-- `masks_of` meets its contract: the lower halves of the sets before i are stored. Assumes nothing.
use mathlib.Core.Path.{refl, ◌∙◌}
use Prim.Native.Nat.{◌%◌, ◌^◌}
use native.Mathlib.Omega.{arith}
use lib.ListN.{get_or, length-set}
use Rattle.base.proofs.Lists.{cell_stored, is_list_from}
use Rattle.subsets.proofs.masks_of.Goals as goal

pub loop-i-init : goal.loop-i-init
loop-i-init c = (omega arith, refl, λ j h. absurd (omega arith))

pub loop-i-preserved : goal.loop-i-preserved
loop-i-preserved c =
    let x = c.loop-i in
    let a = c.args in (
      omega arith,
      length-set x.mask-items x.i c.lower.result ∙ x.invariant.1,
      cell_stored x.mask-items (λ j. get_or a.sets.now j 0 % 2 ^ 32) x.i c.lower.result (omega (arith, x.invariant.1)) c.lower.ensures x.invariant.2,
    )

pub returns : goal.returns
returns c =
    let x = c.loop-i in
    let a = c.args in
    is_list_from x.mask-items 512 (λ j. get_or a.sets.now j 0 % 2 ^ 32) x.invariant.1 (λ j h. x.invariant.2 j (omega arith))
