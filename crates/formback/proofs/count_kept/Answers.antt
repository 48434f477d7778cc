-- `count_kept` meets its contract. Assumes nothing.
use mathlib.Core.Path.{◌≡◌, refl, ap, ◌∙◌}
use mathlib.Core.Logic.{inl, inr}
use Prim.Native.Nat.{◌*◌}
use native.Mathlib.Omega.{arith}
use Rattle.base.specs.Totals.{total}
use Rattle.forms.specs.Form.{how_many, kept_at}
use Rattle.forms.proofs.Picking.{count_on}
use Rattle.formback.proofs.count_kept.Goals.{else-has_symbol, then-has_symbol}
use Rattle.formback.proofs.count_kept.Goals as goal

pub loop-c-init : goal.loop-c-init
unfolding total
loop-c-init c = (omega arith, refl)

pub loop-c-preserved : goal.loop-c-preserved
loop-c-preserved c =
    let l = c.loop-c in
    let a = c.args in
    let e = c.has_symbol in
    let r = count_on (kept_at a.kept.now) l.c l.n c.if-has_symbol.n e.result e.ensures l.invariant.0 l.invariant.1
    ((elim c.if-has_symbol.branch [
      | then-has_symbol x ↦ inl (x.if-has_symbol.true, x.n-is)
      | else-has_symbol x ↦ inr (x.if-has_symbol.false, x.n-is)
    ])) in
    (r.0, r.1)

pub returns : goal.returns
returns c =
    let l = c.loop-c in
    let a = c.args in
    let q : l.c ≡ a.sets * 16 = omega arith in
    (omega arith, l.invariant.1 ∙ ap (how_many (kept_at a.kept.now)) q)
