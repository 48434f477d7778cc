-- `combine` meets its contract, cell by cell. Assumes nothing.
use mathlib.Core.Path.{refl, ◌∙◌}
use native.Mathlib.Omega.{arith}
use lib.ListN.{get_or, length-set}
use Rattle.base.proofs.Lists.{cell_stored, is_list_from}
use Rattle.compositions.specs.Relations.{image_of}
use Rattle.summaries.proofs.Ways.{same_summary}
use Rattle.summaries.proofs.combine.Goals as goal

pub loop-q-init : goal.loop-q-init
loop-q-init c = (refl, λ i b. absurd (omega arith))

pub loop-q-preserved : goal.loop-q-preserved
loop-q-preserved c =
    let x = c.loop-q in
    let a = c.args in (
      length-set x.leads x.q c.image.result ∙ x.invariant.0,
      cell_stored x.leads (λ i. image_of 32 a.later.leads (get_or a.earlier.leads i 0)) x.q c.image.result (omega (arith, x.invariant.0)) c.image.ensures x.invariant.1,
    )

pub returns : goal.returns
returns c =
    let x = c.loop-q in
    let a = c.args in
    same_summary
    (is_list_from x.leads 32 (λ i. image_of 32 a.later.leads (get_or a.earlier.leads i 0)) x.invariant.0 (λ i b. x.invariant.1 i (omega arith)))
    c.sum_capped.ensures
    c.sum_capped-2.ensures
    refl
    refl
    refl
    c.gap.ensures
