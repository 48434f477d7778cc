-- `unpack` meets its contract: what is left of the number is what stands above the masks passed. Assumes
-- nothing.
use mathlib.Core.Path.{◌≡◌, refl, sym, ap, ◌∙◌}
use Prim.Native.Nat.{ℕ, ◌*◌, ◌+◌, ◌/◌, ◌%◌, ◌^◌}
use native.Mathlib.Nat.{div-one}
use native.Mathlib.Omega.{arith}
use lib.ListN.{length-set}
use lib.Pow.{shr-shr}
use Rattle.base.proofs.Lists.{cell_stored, is_list_from}
use Rattle.mappings.proofs.unpack.Goals as goal

pub loop-q-init : goal.loop-q-init
loop-q-init c = (omega arith, refl, sym (div-one _), λ i b. absurd (omega arith))

pub loop-q-preserved : goal.loop-q-preserved
loop-q-preserved c =
    let x = c.loop-q in
    let a = c.args in
    let m : ℕ = x.rest % 256 in
    let up : 8 * x.q + 8 ≡ 8 * (x.q + 1) = omega arith in (
      omega arith,
      length-set x.mask-items x.q m ∙ x.invariant.1,
      ap (λ (y : ℕ). y / 256) x.invariant.2 ∙ shr-shr a.packed (8 * x.q) 8 ∙ ap (λ (y : ℕ). a.packed / 2 ^ y) up,
      cell_stored x.mask-items (λ i. a.packed / 2 ^ (8 * i) % 2 ^ 8) x.q m (omega (arith, x.invariant.1)) (ap (λ (y : ℕ). y % 256) x.invariant.2) x.invariant.3,
    )

pub returns : goal.returns
returns c =
    let x = c.loop-q in
    let a = c.args in
    is_list_from x.mask-items 8 (λ i. a.packed / 2 ^ (8 * i) % 2 ^ 8) x.invariant.1 (λ i b. x.invariant.3 i (omega arith))
