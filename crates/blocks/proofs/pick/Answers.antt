-- `pick` meets its contract. Assumes nothing.
use mathlib.Core.Path.{refl, ◌∙◌}
use Prim.Native.Nat.{ℕ}
use native.Mathlib.Omega.{arith}
use lib.ListN.{get_or, length-set, length-replicate}
use Rattle.base.proofs.Lists.{is_list_from, cell_stored}
use Rattle.blocks.proofs.pick.Goals as goal

pub loop-j-init : goal.loop-j-init
loop-j-init c = (length-replicate {A = ℕ} 32 0, λ b h. absurd (omega arith))

pub offset_bounds-list-k : goal.offset_bounds-list-k
offset_bounds-list-k c = omega (arith, c.requires c.loop-j.j c.loop-j-test.true)

pub bounds-list-k : goal.bounds-list-k
bounds-list-k c = c.requires c.loop-j.j c.loop-j-test.true

pub loop-j-preserved : goal.loop-j-preserved
loop-j-preserved c =
    let l = c.loop-j in
    let of = c.args.of.now in
    let list = c.args.list.now in
    let v = get_or list (get_or of l.j 0) 0 in (
      length-set l.out l.j v ∙ l.invariant.0,
      cell_stored l.out (λ b. get_or list (get_or of b 0) 0) l.j v (omega (arith, l.invariant.0)) refl l.invariant.1,
    )

pub returns : goal.returns
returns c =
    let l = c.loop-j in
    let of = c.args.of.now in
    let list = c.args.list.now in
    is_list_from l.out 32 (λ b. get_or list (get_or of b 0) 0) l.invariant.0 (λ b h. l.invariant.1 b (omega arith))
