-- `kept_mask` meets its contract. Assumes nothing.
use mathlib.Core.Path.{◌≡◌, refl, ap, ◌∙◌}
use mathlib.Core.Logic.{inl, inr}
use native.Mathlib.Omega.{arith}
use lib.Bits.{bit_or}
use Rattle.masks.specs.Masks.{mask_of}
use Rattle.forms.specs.Form.{keeps}
use Rattle.formmaker.proofs.Turns.{mask_more}
use Rattle.formmaker.proofs.kept_mask.Goals.{else-keep, then-keep}
use Rattle.formmaker.proofs.kept_mask.Goals as goal

pub loop-s-init : goal.loop-s-init
unfolding mask_of
loop-s-init c =
    refl

pub loop-s-preserved : goal.loop-s-preserved
loop-s-preserved c =
    let l = c.loop-s in
    let a = c.args in
    let e = c.keep in
    mask_more a.next.now a.k a.t a.failure l.s l.mask c.if-keep.mask e.result c.requires.3 l.invariant e.ensures
    ((elim c.if-keep.branch [
      | then-keep x ↦ inl (x.if-keep.true, x.mask-is ∙ ap (bit_or l.mask) x.only_symbol-mask.ensures)
      | else-keep x ↦ inr (x.if-keep.false, x.mask-is)
    ]))

pub returns : goal.returns
returns c =
    let l = c.loop-s in
    let q : l.s ≡ c.args.k = omega arith in
    l.invariant ∙ ap (mask_of (keeps c.args.next.now c.args.k c.args.t)) q
