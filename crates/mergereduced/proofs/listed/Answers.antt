-- `listed` meets its contract: the places below p are filled. Assumes nothing.
use mathlib.Core.Path.{◌≡◌, ◌∙◌}
use Prim.Native.Nat.{ℕ, ◌<◌}
use native.Mathlib.Omega.{arith}
use lib.ListN.{length, length-set, length-replicate}
use Rattle.base.proofs.Lists.{is_list_from, cell_stored}
use Rattle.mergereduce.specs.Trimmed.{nth}
use Rattle.mergereduced.specs.mirror.Asked.{set_in}
use Rattle.mergereduced.proofs.listed.Goals as goal

pub loop-p-init : goal.loop-p-init
loop-p-init c = (length-replicate {A = ℕ} 32 0, λ i l. absurd (omega arith))

pub loop-p-preserved : goal.loop-p-preserved
loop-p-preserved c =
    let x = c.loop-p in
    let a = c.args in
    let l : x.p < length x.pair-items = omega arith in (
      length-set x.pair-items x.p c.nth.result ∙ x.invariant.0,
      cell_stored x.pair-items (nth a.n (set_in a.set.now)) x.p c.nth.result l c.nth.ensures x.invariant.1,
    )

pub returns : goal.returns
returns c =
    let x = c.loop-p in
    let a = c.args in
    let e : x.p ≡ 32 = omega arith in
    is_list_from x.pair-items 32 (nth a.n (set_in a.set.now)) x.invariant.0 (λ i l. x.invariant.1 i (omega arith))
