-- `end_masks` meets its contract. Assumes nothing.
use mathlib.Core.Path.{ap, ◌∙◌}
use Prim.Native.Nat.{ℕ, ◌/◌}
use native.Mathlib.Omega.{arith}
use lib.ListN.{get_or, length-set, length-replicate}
use Rattle.base.proofs.Lists.{is_list_from, cell_stored}
use Rattle.chunks.specs.mirror.Walks.{mask_of}
use Rattle.chunks.proofs.end_masks.Goals as goal

pub loop-q-init : goal.loop-q-init
loop-q-init c = (length-replicate {A = ℕ} 32 0, λ p h. absurd (omega arith))

pub set_of-requires : goal.set_of-requires
set_of-requires c = c.requires c.loop-q.q

pub loop-q-preserved : goal.loop-q-preserved
loop-q-preserved c =
    let l = c.loop-q in
    let sets = c.args.sets.now in
    let rows = c.args.rows in
    let v = c.mask_of in (
      length-set l.ends l.q v.result ∙ l.invariant.0,
      cell_stored l.ends (λ p. mask_of sets (get_or rows p 0 / 16)) l.q v.result (omega (arith, l.invariant.0)) (v.ensures ∙ ap (mask_of sets) c.set_of.ensures) l.invariant.1,
    )

pub returns : goal.returns
returns c =
    let l = c.loop-q in
    is_list_from l.ends 32 (λ p. mask_of c.args.sets.now (get_or c.args.rows p 0 / 16)) l.invariant.0 (λ p h. l.invariant.1 p (omega arith))
