-- `fill_targets` meets its contract: the cells before c are stored. Assumes nothing.
use mathlib.Core.Path.{refl, ◌∙◌}
use Prim.Native.Nat.{◌/◌, ◌%◌}
use native.Mathlib.Omega.{arith}
use lib.ListN.{get_or, length-set}
use lib.Bits.{bit_and}
use Rattle.base.proofs.Lists.{cell_stored, is_list_from}
use Rattle.patternreader.proofs.fill_targets.Goals as goal

pub loop-c-init : goal.loop-c-init
loop-c-init c = (omega arith, refl, λ k h. absurd (omega arith))

pub loop-c-preserved : goal.loop-c-preserved
loop-c-preserved c =
    let x = c.loop-c in
    let a = c.args in (
      omega arith,
      length-set x.target-items x.c (bit_and (get_or a.rows (x.c / 16) 0) (get_or a.positions (x.c % 16) 0)) ∙ x.invariant.1,
      cell_stored x.target-items (λ k. bit_and (get_or a.rows (k / 16) 0) (get_or a.positions (k % 16) 0)) x.c (bit_and (get_or a.rows (x.c / 16) 0) (get_or a.positions (x.c % 16) 0))
          (omega (arith, x.invariant.1))
          refl
          x.invariant.2,
    )

pub returns : goal.returns
returns c =
    let x = c.loop-c in
    let a = c.args in
    is_list_from x.target-items 512 (λ k. bit_and (get_or a.rows (k / 16) 0) (get_or a.positions (k % 16) 0)) x.invariant.1 (λ k h. x.invariant.2 k (omega arith))
