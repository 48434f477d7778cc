-- `number_singles` meets its contract: the numbers of the states before q are stored. Assumes
-- nothing.
use Rattle.base.proofs.Lists.{cell_stored, is_list_from}
use Rattle.subsets.specs.mirror.Singles.{singleton_number}
use lib.ListN.{length-set}
use native.Mathlib.Omega.{arith}
use mathlib.Core.Path.{refl, ◌∙◌}
use Rattle.subsets.proofs.number_singles.Goals as goal

pub loop-q-init : goal.loop-q-init
loop-q-init c = (omega arith, refl, λ p h. absurd (omega arith))

pub loop-q-preserved : goal.loop-q-preserved
loop-q-preserved c =
    let x = c.loop-q in
    let a = c.args in (
      omega arith,
      length-set x.single-items x.q c.number_single-number.result.0 ∙ x.invariant.1,
      cell_stored x.single-items (singleton_number a.sets.now a.count) x.q c.number_single-number.result.0 (omega (arith, x.invariant.1)) c.number_single-number.ensures x.invariant.2,
    )

pub returns : goal.returns
returns c =
    let x = c.loop-q in
    let a = c.args in
    is_list_from x.single-items 32 (singleton_number a.sets.now a.count) x.invariant.1 (λ p h. x.invariant.2 p (omega arith))
