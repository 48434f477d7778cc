-- `pack` meets its contract. The loop's invariant: the cells are those packed so far, and 0. Assumes nothing.
use mathlib.Core.Path.{◌≡◌, refl, ap, ◌∙◌}
use mathlib.Core.Logic.{inl, inr}
use Prim.Native.Nat.{ℕ, ◌*◌}
use native.Mathlib.Omega.{arith}
use lib.ListN.{length, get_or, length-replicate}
use Rattle.base.proofs.Lists.{is_list_from, zero_cells}
use Rattle.base.specs.Totals.{total}
use Rattle.forms.specs.Form.{kept_at, picked}
use Rattle.formmaker.proofs.Turns.{packed_none, pack_more}
use Rattle.formmaker.proofs.pack.Goals.{else-has_symbol, then-has_symbol}
use Rattle.formmaker.proofs.pack.Goals as goal

pub loop-c-init : goal.loop-c-init
unfolding total
loop-c-init c =
    let a = c.args in
    let e = c.requires.1 in (
      refl,
      omega arith,
      ap length e ∙ length-replicate {A = ℕ} 8192 0,
      packed_none (kept_at a.kept.now) (λ j. get_or a.next.now j 0) a.cells.now (λ i. ap (λ l. get_or l i 0) e ∙ zero_cells 8192 i),
    )

pub loop-c-preserved : goal.loop-c-preserved
loop-c-preserved c =
    let l = c.loop-c in
    let a = c.args in
    let e = c.has_symbol in
    let r = pack_more (kept_at a.kept.now) (λ j. get_or a.next.now j 0) l.c l.at c.if-has_symbol.at l.cells c.if-has_symbol.cells e.result e.ensures
    l.invariant.0 l.invariant.1 (omega arith) l.invariant.2 l.invariant.3
    ((elim c.if-has_symbol.branch [
      | then-has_symbol x ↦ inl (x.if-has_symbol.true, x.cells-is, x.at-is)
      | else-has_symbol x ↦ inr (x.if-has_symbol.false, x.cells-is, x.at-is)
    ])) in
    (r.0, r.1, r.2, r.3)

pub returns : goal.returns
returns c =
    let l = c.loop-c in
    let a = c.args in
    let q : l.c ≡ a.sets * 16 = omega arith in
    is_list_from l.cells 8192 (λ i. get_or (picked (kept_at a.kept.now) (λ j. get_or a.next.now j 0) (a.sets * 16)) i 0) l.invariant.2
    (λ i b. l.invariant.3 i b ∙ ap (λ (n : ℕ). get_or (picked (kept_at a.kept.now) (λ j. get_or a.next.now j 0) n) i 0) q)
