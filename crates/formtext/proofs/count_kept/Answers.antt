-- `count_kept` meets its contract. The loop's invariant: the cells of the sets passed are counted.
-- Assumes nothing.
use mathlib.Core.Path.{◌≡◌, refl, ap, ◌∙◌}
use native.Mathlib.Omega.{arith}
use lib.ListN.{get_or}
use Rattle.base.specs.Totals.{total}
use Rattle.base.proofs.Totals.{total_more}
use Rattle.formtext.specs.FormText.{bits_in, first_cell}
use Rattle.formtext.proofs.count_kept.Goals as goal

pub loop-t-init : goal.loop-t-init
unfolding total
loop-t-init c = (omega arith, c.requires, omega arith, refl)

pub loop-t-preserved : goal.loop-t-preserved
loop-t-preserved c =
    let l = c.loop-t in
    let b = c.bits_in-n in
    let m = total_more (λ u. bits_in (get_or c.args.kept.now u 0)) l.t in
    (omega arith, l.invariant.1, omega (arith, b.ensures.0, l.invariant), omega (arith, b.ensures.1, l.invariant.3))

pub returns : goal.returns
returns c =
    let l = c.loop-t in
    let a = c.args in
    let q : l.t ≡ a.count = omega arith in
    (omega arith, l.invariant.3 ∙ ap (first_cell a.kept.now) q)
