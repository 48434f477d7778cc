-- `then` meets its contract. Assumes nothing.
use mathlib.Core.Path.{refl, ◌∙◌}
use Prim.Native.Nat.{ℕ, ◌+◌}
use native.Mathlib.Omega.{arith}
use lib.ListN.{get_or, length-set, length-replicate}
use Rattle.base.proofs.Lists.{is_list_from, cell_stored}
use Rattle.blocks.proofs.Parts.{walked_is}
use Rattle.blocks.proofs.then.Goals as goal

pub loop-j-init : goal.loop-j-init
loop-j-init c = (length-replicate {A = ℕ} 32 0, λ b h. absurd (omega arith))

pub overflow_add-counts : goal.overflow_add-counts
overflow_add-counts c = omega (arith, c.requires.0.counts c.loop-j.j, c.requires.1.counts c.loop-j.j)

pub loop-j-preserved : goal.loop-j-preserved
loop-j-preserved c =
    let l = c.loop-j in
    let x = c.args.x.counts in
    let y = c.args.y.counts in
    let v = get_or x l.j 0 + get_or y l.j 0 in (
      length-set l.counts l.j v ∙ l.invariant.0,
      cell_stored l.counts (λ b. get_or x b 0 + get_or y b 0) l.j v (omega (arith, l.invariant.0)) refl l.invariant.1,
    )

pub returns : goal.returns
returns c =
    let l = c.loop-j in
    let x = c.args.x.counts in
    let y = c.args.y.counts in
    walked_is refl (is_list_from l.counts 32 (λ b. get_or x b 0 + get_or y b 0) l.invariant.0 (λ b h. l.invariant.1 b (omega arith))) refl
