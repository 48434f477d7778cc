-- `fill_offsets` meets its contract. The cells before c have the row offsets, those from c on are
-- still the empty set's. Assumes nothing.
use mathlib.Core.Path.{ap, ◌∙◌}
use Prim.Native.Nat.{ℕ}
use native.Mathlib.Omega.{arith}
use lib.ListN.{length, get_or, length-set, length-replicate, get_or-replicate}
use lib.Seq.{get_or-set_other}
use Rattle.base.proofs.Lists.{cell_stored}
use Rattle.lanes.specs.mirror.Offsets.{row_of}
use Rattle.lanes.proofs.Offsets.{filled_table}
use Rattle.lanes.proofs.fill_offsets.Goals as goal

pub loop-c-init : goal.loop-c-init
loop-c-init c = (
  ap length c.requires ∙ length-replicate {A = ℕ} 8208 8192,
  λ b h. absurd (omega arith),
  λ b h l. rw c.requires (get_or-replicate {A = ℕ} 8208 b 8192 0 l),
)

pub bounds-t-c : goal.bounds-t-c
bounds-t-c c = omega (arith, c.loop-c.invariant.0)

pub loop-c-preserved : goal.loop-c-preserved
loop-c-preserved c =
    let l = c.loop-c in
    let v = c.row_of in
    let n = c.args.next.now in (
      length-set l.t l.c v.result ∙ l.invariant.0,
      cell_stored l.t (λ b. row_of (get_or n b 0)) l.c v.result (omega arith) v.ensures l.invariant.1,
      λ b h k. get_or-set_other l.t l.c b v.result 0 (λ e. omega arith) ∙ l.invariant.2 b (omega arith) k,
    )

pub returns : goal.returns
returns c =
    let l = c.loop-c in
    filled_table c.args.next.now l.t l.invariant.0 (λ b h. l.invariant.1 b (omega arith)) (λ b h k. l.invariant.2 b (omega arith) k)
