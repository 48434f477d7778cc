-- `bits_in` meets its contract. The loop's invariant: the bits of the symbols passed are counted.
-- Assumes nothing.
use mathlib.Core.Path.{◌≡◌, refl, ap, ◌∙◌}
use mathlib.Core.Logic.{inl, inr}
use native.Mathlib.Omega.{arith}
use Rattle.base.specs.Totals.{total}
use Rattle.masks.specs.Masks.{has}
use Rattle.forms.specs.Form.{how_many}
use Rattle.forms.proofs.Picking.{count_on}
use Rattle.formtext.proofs.bits_in.Goals.{else-has_symbol, then-has_symbol}
use Rattle.formtext.proofs.bits_in.Goals as goal

pub loop-s-init : goal.loop-s-init
unfolding total
loop-s-init c = (omega arith, omega arith, refl)

pub loop-s-preserved : goal.loop-s-preserved
loop-s-preserved c =
    let l = c.loop-s in
    let e = c.has_symbol in
    let r = count_on (has c.args.mask) l.s l.n c.if-has_symbol.n e.result e.ensures l.invariant.1 l.invariant.2
    ((elim c.if-has_symbol.branch [
      | then-has_symbol x ↦ inl (x.if-has_symbol.true, x.n-is)
      | else-has_symbol x ↦ inr (x.if-has_symbol.false, x.n-is)
    ])) in
    (omega arith, r.0, r.1)

pub returns : goal.returns
returns c =
    let l = c.loop-s in
    let q : l.s ≡ 16 = omega arith in
    (omega arith, l.invariant.2 ∙ ap (how_many (has c.args.mask)) q)
