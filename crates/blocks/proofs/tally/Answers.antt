-- `tally` meets its contract. The lanes from `used` on are empty, and count nothing. Assumes nothing.
use mathlib.Core.Path.{sym, ◌∙◌}
use Prim.Native.Nat.{ℕ}
use native.Mathlib.Omega.{arith}
use borrow.Author.Tests.{ltb-true, ltb-false}
use lib.Dec.{ltb}
use lib.ListN.{get_or, length-set, length-replicate}
use lib.Seq.{get_or-set_other}
use Rattle.base.proofs.Lists.{is_list_from, cell_stored, zero_cells}
use Rattle.base.proofs.Tests.{by_test}
use Rattle.walks.proofs.Steps.{count_empty}
use Rattle.lanes.specs.mirror.Offsets.{hop_of, row_count}
use Rattle.lanes.proofs.Offsets.{hop_low, hop_stays}
use Rattle.lanes.proofs.Rows.{rows_at}
use Rattle.blocks.proofs.tally.Goals as goal

pub loop-k-init : goal.loop-k-init
loop-k-init c = (length-replicate {A = ℕ} 40 0, λ b h. absurd (omega arith), λ b h. zero_cells 40 b)

pub spent-requires : goal.spent-requires
spent-requires c =
    let l = c.loop-k in (
      c.requires.0,
      c.requires.1.rows l.k,
      rw c.requires.2 (rows_at c.args.t.now c.args.part.now c.args.from.now 40 l.k (omega arith)),
    )

pub bounds-counts-k : goal.bounds-counts-k
bounds-counts-k c = omega (arith, c.loop-k.invariant.0, c.requires.1.most)

pub loop-k-preserved : goal.loop-k-preserved
loop-k-preserved c =
    let l = c.loop-k in
    let v = c.spent in (
      length-set l.counts l.k v.result ∙ l.invariant.0,
      cell_stored l.counts (λ b. row_count c.args.t.now c.args.part.now (get_or c.args.from.now b 0)) l.k v.result (omega (arith, l.invariant.0, c.requires.1.most)) v.ensures l.invariant.1,
      λ b h. get_or-set_other l.counts l.k b v.result 0 (λ e. omega arith) ∙ l.invariant.2 b (omega arith),
    )

pub returns : goal.returns
returns c =
    let l = c.loop-k in
    let t = c.args.t.now in
    let w = c.args.part.now in
    let from = c.args.from.now in
    is_list_from l.counts 40 (λ b. row_count t w (get_or from b 0)) l.invariant.0
    (λ b h.
    by_test (ltb b l.k)
    (λ e. l.invariant.1 b (ltb-true b l.k e))
    (λ e.
    let past = ltb-false b l.k e in
    let dead = c.requires.1.rest b (omega arith) h in
    l.invariant.2 b past ∙ rw dead (sym (count_empty (hop_of t) 8192 (hop_low t c.requires.0) (hop_stays t c.requires.0) w))))
