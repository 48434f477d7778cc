-- `mark_sets` meets its contract. The loop's invariant: the sets passed are marked, and the other cells are 0. Assumes nothing.
use mathlib.Core.Path.{◌≡◌, ap, ◌∙◌}
use mathlib.Core.Bool.{cond}
use Prim.Native.Nat.{ℕ}
use native.Mathlib.Omega.{arith}
use lib.Dec.{ltb}
use lib.ListN.{length, length-set, length-replicate}
use Rattle.base.proofs.Lists.{is_list_from}
use Rattle.forms.specs.Form.{failure_of, kept_mask}
use Rattle.forms.proofs.Filling.{filled_none, fill_more}
use Rattle.formmaker.proofs.mark_sets.Goals as goal

pub loop-t-init : goal.loop-t-init
loop-t-init c =
    let a = c.args in
    let e = c.requires.2 in
    let d = c.requires.3 in (
      ap length e ∙ length-replicate {A = ℕ} 512 0,
      ap length d ∙ length-replicate {A = ℕ} 512 0,
      filled_none 512 0 (failure_of a.next.now a.k) a.failure.now e,
      filled_none 512 0 (kept_mask a.next.now a.k) a.kept.now d,
    )

pub loop-t-preserved : goal.loop-t-preserved
loop-t-preserved c =
    let l = c.loop-t in
    let a = c.args in
    let f = c.failure_of-f in
    let m = c.kept_mask-mask in (
      length-set l.failure l.t f.result ∙ l.invariant.0,
      length-set l.kept l.t m.result ∙ l.invariant.1,
      fill_more 512 0 (failure_of a.next.now a.k) l.t f.result l.failure f.ensures.1 (omega arith) l.invariant.2,
      fill_more 512 0 (kept_mask a.next.now a.k) l.t m.result l.kept m.ensures (omega arith) l.invariant.3,
    )

pub returns : goal.returns
returns c =
    let l = c.loop-t in
    let a = c.args in
    let q : l.t ≡ a.sets = omega arith in (
      is_list_from l.failure 512 (λ i. cond (ltb i a.sets) (failure_of a.next.now a.k i) 0) l.invariant.0
          (λ i b. l.invariant.2 i b ∙ ap (λ (n : ℕ). cond (ltb i n) (failure_of a.next.now a.k i) 0) q),
      is_list_from l.kept 512 (λ i. cond (ltb i a.sets) (kept_mask a.next.now a.k i) 0) l.invariant.1
          (λ i b. l.invariant.3 i b ∙ ap (λ (n : ℕ). cond (ltb i n) (kept_mask a.next.now a.k i) 0) q),
    )
