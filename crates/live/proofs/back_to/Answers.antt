-- `back_to` meets its contract. The loop's invariant: the states below q that lead there are found.
-- Assumes nothing.
use mathlib.Core.Path.{◌≡◌, refl, sym, ap, ◌∙◌}
use native.Mathlib.Omega.{arith}
use lib.Bits.{bit_or}
use Rattle.masks.specs.Masks.{mask_of}
use Rattle.live.specs.Live.{leads}
use Rattle.masks.proofs.Passing.{mask_add, mask_skip}
use Rattle.live.proofs.back_to.Goals.{else-leads, then-leads}
use Rattle.live.proofs.back_to.Goals as goal

pub loop-q-init : goal.loop-q-init
unfolding mask_of
loop-q-init c =
    refl

pub loop-q-preserved : goal.loop-q-preserved
loop-q-preserved c =
    let l = c.loop-q in
    let a = c.args in
    let test = leads a.targets.now a.set in
    elim c.if-leads.branch [
      | then-leads w ↦ w.found-is
          ∙ w.union-found.ensures
          ∙ ap (bit_or l.found) w.singleton.ensures
          ∙ mask_add test l.q l.found l.invariant (sym c.leads.ensures ∙ w.if-leads.true)
      | else-leads w ↦ w.found-is ∙ mask_skip test l.q l.found l.invariant (sym c.leads.ensures ∙ w.if-leads.false)
    ]

pub returns : goal.returns
returns c =
    let l = c.loop-q in
    let a = c.args in
    let e : l.q ≡ 32 = omega arith in
    c.union.ensures ∙ ap (bit_or a.set) (l.invariant ∙ ap (mask_of (leads a.targets.now a.set)) e)
