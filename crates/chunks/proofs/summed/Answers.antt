-- `summed` meets its contract. Assumes nothing.
use mathlib.Core.Path.{◌≡◌, refl, ap, ◌∙◌}
use native.Mathlib.Omega.{arith}
use lib.ListN.{get_or}
use Rattle.base.specs.Totals.{total}
use Rattle.base.proofs.Totals.{total_more, total_most}
use Rattle.chunks.proofs.summed.Goals as goal

pub loop-one-init : goal.loop-one-init
unfolding total
loop-one-init c = refl

pub overflow_add-count : goal.overflow_add-count
overflow_add-count c =
    let l = c.loop-one in
    omega (arith, l.invariant, c.requires l.one-index, total_most (λ p. get_or c.args.counts p 0) 65536 l.one-index (λ p h. c.requires p))

pub loop-one-preserved : goal.loop-one-preserved
loop-one-preserved c =
    let l = c.loop-one in
    (omega (arith, l.invariant, total_more (λ p. get_or c.args.counts p 0) l.one-index))

pub returns : goal.returns
returns c =
    let l = c.loop-one in
    let all : l.one-index ≡ 32 = omega arith in
    l.invariant ∙ ap (total (λ p. get_or c.args.counts p 0)) all
