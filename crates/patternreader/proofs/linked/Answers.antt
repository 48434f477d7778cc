-- `linked` meets its contract: the masks of the positions before i are stored. Assumes nothing.
use mathlib.Core.Path.{◌≡◌, refl, ap, ◌∙◌}
use mathlib.Core.Bool.{Bool, cond}
use Prim.Native.Nat.{ℕ}
use native.Mathlib.Omega.{arith}
use lib.ListN.{get_or, length-set}
use lib.Bits.{bit_or}
use Rattle.masks.specs.Masks.{has}
use Rattle.base.proofs.Lists.{cell_stored, is_list_from}
use Rattle.patternreader.proofs.linked.Goals as goal

pub loop-i-init : goal.loop-i-init
loop-i-init c = (omega arith, refl, λ k h. absurd (omega arith))

pub loop-i-preserved : goal.loop-i-preserved
loop-i-preserved c =
    let x = c.loop-i in
    let a = c.args in
    let e : c.kept.result ≡ cond (has a.last x.i) a.first 0 =
    c.kept.ensures ∙ ap (λ (b : Bool). cond b a.first 0) c.member-ends.ensures in (
      omega arith,
      length-set x.mask-items x.i (bit_or (get_or a.follow x.i 0) c.kept.result) ∙ x.invariant.1,
      cell_stored x.mask-items (λ k. bit_or (get_or a.follow k 0) (cond (has a.last k) a.first 0)) x.i (bit_or (get_or a.follow x.i 0) c.kept.result)
          (omega (arith, x.invariant.1))
          (ap (λ (m : ℕ). bit_or (get_or a.follow x.i 0) m) e)
          x.invariant.2,
    )

pub returns : goal.returns
returns c =
    let x = c.loop-i in
    let a = c.args in
    is_list_from x.mask-items 32 (λ k. bit_or (get_or a.follow k 0) (cond (has a.last k) a.first 0)) x.invariant.1 (λ k h. x.invariant.2 k (omega arith))
