-- `merge_starts` meets its contract. The loop's invariant is `Merging`. Assumes nothing.
use mathlib.Core.Path.{◌≡◌, sym, ap, ◌∙◌}
use mathlib.Core.Bool.{cond}
use mathlib.Core.List.{List}
use Prim.Native.Nat.{ℕ, ◌+◌, ◌<◌, min}
use native.Mathlib.Nat.{add-zero, lt_of_lt_of_le, min-le_right}
use native.Mathlib.Omega.{arith}
use borrow.Author.Tests.{eq-eqb, ne_eqb}
use lib.Dec.{eqb}
use lib.ListN.{set}
use Rattle.delegates.specs.mirror.Refinement.{class_of, cell_in, classes_of}
use Rattle.delegates.proofs.Merging.{class_at, begun, turned, all_merged}
use Rattle.delegates.proofs.merge_starts.Goals.{else-delegate-q, then-delegate-q}
use Rattle.delegates.proofs.merge_starts.Goals as goal

pub loop-q-init : goal.loop-q-init
loop-q-init c =
    let a = c.args in
    begun a.sets.now a.next.now a.finals a.singles.now (min a.k 16)

pub loop-q-preserved : goal.loop-q-preserved
loop-q-preserved c =
    let l = c.loop-q in
    let a = c.args in
    let d = c.delegate_cell-delegate in
    let x : ℕ = c.single-set.result.0 in
    let all : c.refine-class.result ≡ classes_of a.sets.now a.next.now a.finals (min a.k 16) =
    rw (← c.min-symbols.ensures) c.refine-class.ensures in
    let is : class_of c.refine-class.result x ≡ class_at a.sets.now a.next.now a.finals a.singles.now (min a.k 16) l.q =
    rw (all, c.single-set.ensures) in
    let below : l.q < min a.n 32 = rw c.min-states.ensures at c.loop-q-test.true in
    let counted : c.if-delegate-q.starts ≡ l.starts + cond (eqb d.result l.q) 1 0 =
    (elim c.if-delegate-q.branch [
      | then-delegate-q w ↦ w.starts-is ∙ rw (eq-eqb d.result l.q w.if-delegate-q.true)
      | else-delegate-q w ↦ w.starts-is ∙ rw (ne_eqb d.result l.q w.if-delegate-q.false) (sym (add-zero l.starts))
    ]) in
    turned a.sets.now a.next.now a.finals a.singles.now (min a.k 16) l.own l.delegates l.starts l.q l.invariant
    (lt_of_lt_of_le below (min-le_right a.n 32))
    (class_of c.refine-class.result x)
    d.result
    is
    (d.ensures ∙ ap (λ (e : List ℕ). cell_in (set l.own l.q (class_of c.refine-class.result x)) (class_of e 512) l.q) all)
    c.if-delegate-q.starts
    counted

pub returns : goal.returns
returns c =
    let l = c.loop-q in
    let a = c.args in
    let e : l.q ≡ min a.n 32 = omega arith in
    all_merged a.sets.now a.next.now a.finals a.singles.now a.n a.k l.own l.delegates l.starts l.q e l.invariant
