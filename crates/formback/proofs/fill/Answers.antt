-- `fill` meets its contract. The loop's invariant: the cells passed are those of the table, and as
-- many packed cells were taken as are kept among them. Assumes nothing.
use mathlib.Core.Path.{refl, sym, ap, ◌∙◌}
use mathlib.Core.Logic.{inl, inr}
use Prim.Native.Nat.{ℕ}
use native.Mathlib.Omega.{arith}
use lib.ListN.{length, length-replicate}
use Rattle.base.specs.Totals.{total}
use Rattle.forms.specs.Back.{back_cell}
use Rattle.forms.proofs.Accepting.{parts}
use Rattle.forms.proofs.Filling.{filled_none}
use Rattle.formback.specs.mirror.Parts.{form_by}
use Rattle.formback.proofs.Rows.{row_below, all_filled, row_more}
use Rattle.formback.proofs.fill.Goals.{else-has_symbol, then-has_symbol}
use Rattle.formback.proofs.fill.Goals as goal

pub loop-c-init : goal.loop-c-init
unfolding total
loop-c-init c =
    let a = c.args in
    let f = form_by a.sets a.k a.failure.now a.kept.now a.cells.now in (
      (parts f c.requires.0).sets,
      refl,
      omega arith,
      ap length c.requires.1 ∙ length-replicate {A = ℕ} 8192 512,
      filled_none 8192 512 (back_cell f) a.next.now c.requires.1,
    )

pub overflow_mul-c-end : goal.overflow_mul-c-end
overflow_mul-c-end c =
    let a = c.args in
    let few = (parts (form_by a.sets a.k a.failure.now a.kept.now a.cells.now) c.requires.0).sets in
    omega arith

pub inherited-requires : goal.inherited-requires
inherited-requires c =
    let l = c.loop-c in
    let a = c.args in
    let e = c.has_symbol in (
      omega arith,
      omega arith,
      λ h.
          let low = row_below (form_by a.sets a.k a.failure.now a.kept.now a.cells.now) c.requires.0 l.c (omega arith)
          (sym e.ensures ∙ c.if-has_symbol.false) h in
          omega arith,
    )

pub loop-c-preserved : goal.loop-c-preserved
loop-c-preserved c =
    let l = c.loop-c in
    let a = c.args in
    let e = c.has_symbol in
    let r = row_more (form_by a.sets a.k a.failure.now a.kept.now a.cells.now) c.requires.0 l.c l.at c.if-has_symbol.at
    l.next c.if-has_symbol.next e.result (omega arith) e.ensures l.invariant.1 l.invariant.2 l.invariant.3 l.invariant.4
    ((elim c.if-has_symbol.branch [
      | then-has_symbol x ↦ inl (x.if-has_symbol.true, x.next-is, x.at-is)
      | else-has_symbol x ↦ inr (x.if-has_symbol.false, (x.inherited.result, x.inherited.ensures, x.next-is), x.at-is)
    ])) in
    (omega arith, r.0, r.1, r.2, r.3)

pub returns : goal.returns
returns c =
    let l = c.loop-c in
    let a = c.args in
    all_filled (form_by a.sets a.k a.failure.now a.kept.now a.cells.now) l.next l.c (omega arith) l.invariant.3 l.invariant.4
