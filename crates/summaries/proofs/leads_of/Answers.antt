-- `leads_of` meets its contract, cell by cell. Assumes nothing.
use mathlib.Core.Path.{refl, ◌∙◌}
use native.Mathlib.Omega.{arith}
use lib.ListN.{get_or, length-set}
use Rattle.base.proofs.Lists.{cell_stored, is_list_from}
use Rattle.chunks.specs.mirror.Walks.{delegate_mask}
use Rattle.summaries.proofs.leads_of.Goals as goal

pub loop-q-init : goal.loop-q-init
loop-q-init c = (refl, λ i b. absurd (omega arith))

pub loop-q-preserved : goal.loop-q-preserved
loop-q-preserved c =
    let x = c.loop-q in
    let a = c.args in (
      length-set x.leads x.q c.delegate_mask.result ∙ x.invariant.0,
      cell_stored x.leads (λ i. delegate_mask a.delegates a.n (get_or a.ends i 0)) x.q c.delegate_mask.result (omega (arith, x.invariant.0)) c.delegate_mask.ensures x.invariant.1,
    )

pub returns : goal.returns
returns c =
    let x = c.loop-q in
    let a = c.args in
    is_list_from x.leads 32 (λ i. delegate_mask a.delegates a.n (get_or a.ends i 0)) x.invariant.0 (λ i b. x.invariant.1 i (omega arith))
