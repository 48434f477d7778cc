-- `letter` meets its contract, mask by mask. Assumes nothing.
use mathlib.Core.Path.{refl, ◌∙◌}
use Prim.Native.Nat.{◌%◌, ◌^◌}
use native.Mathlib.Omega.{arith}
use lib.ListN.{length-set}
use Rattle.base.proofs.Lists.{cell_stored, is_list_from}
use Rattle.automaton.specs.Rules.{target_mask}
use Rattle.mappings.proofs.letter.Goals as goal

pub loop-q-init : goal.loop-q-init
loop-q-init c = (omega arith, refl, λ i b. absurd (omega arith))

pub loop-q-preserved : goal.loop-q-preserved
loop-q-preserved c =
    let x = c.loop-q in
    let a = c.args in (
      omega arith,
      length-set x.mask-items x.q c.target.result ∙ x.invariant.1,
      cell_stored x.mask-items (λ i. target_mask a.targets.now i a.symbol % 2 ^ 8) x.q c.target.result (omega (arith, x.invariant.1)) c.target.ensures x.invariant.2,
    )

pub returns : goal.returns
returns c =
    let x = c.loop-q in
    let a = c.args in
    is_list_from x.mask-items 8 (λ i. target_mask a.targets.now i a.symbol % 2 ^ 8) x.invariant.1 (λ i b. x.invariant.2 i (omega arith))
