-- `run_all` meets its contract: the runs over row offsets are those of `runs_of`. Assumes nothing.
use mathlib.Core.Path.{◌≡◌, ap, ◌∙◌}
use Prim.Native.Nat.{ℕ, ◌≤◌}
use native.Mathlib.Omega.{arith}
use lib.ListN.{get_or}
use Rattle.base.specs.Totals.{total}
use Rattle.base.proofs.Totals.{total_most}
use Rattle.lanes.specs.mirror.Offsets.{offsets_of}
use Rattle.lanes.proofs.Offsets.{row_table, rows_low}
use Rattle.blocks.specs.declared.Walked.{Walked}
use Rattle.blocks.specs.mirror.Blocks.{walked_of}
use Rattle.blocks.proofs.Parts.{counts_small, looked_small}
use Rattle.chunks.specs.mirror.Walks.{start_rows, end_masks}
use Rattle.chunks.proofs.Running.{start_low, ends, counted, looks, runs_are}
use Rattle.chunks.proofs.run_all.Goals as goal

pub walk_text-walked-requires : goal.walk_text-walked-requires
walk_text-walked-requires c =
    (rw c.start_rows.ensures (start_low c.args.singles.now c.args.mask), c.requires)

pub end_masks-requires : goal.end_masks-requires
end_masks-requires c =
    let t = offsets_of c.args.next.now in
    let w = c.args.chunk.now in
    let from = c.start_rows in
    let walk = c.walk_text-walked in
    rw (walk.ensures, from.ensures)
    (rows_low t (row_table c.args.next.now) w (start_rows c.args.singles.now c.args.mask) 32 (start_low c.args.singles.now c.args.mask))

pub summed-requires : goal.summed-requires
summed-requires c =
    let t = offsets_of c.args.next.now in
    let w = c.args.chunk.now in
    let from = c.start_rows in
    let walk = c.walk_text-walked in
    λ q. rw walk.ensures (counts_small t w from.result 65536 c.requires q)

pub overflow_cast-result : goal.overflow_cast-result
overflow_cast-result c =
    let t = offsets_of c.args.next.now in
    let w = c.args.chunk.now in
    let from = c.start_rows in
    let walk = c.walk_text-walked in
    let few : (q : ℕ) → get_or walk.result.counts q 0 ≤ 65536 = λ q. rw walk.ensures (counts_small t w from.result 65536 c.requires q) in
    omega (arith, c.summed.ensures, total_most (λ q. get_or walk.result.counts q 0) 65536 32 (λ q h. few q))

pub overflow_cast-result-3 : goal.overflow_cast-result-3
overflow_cast-result-3 c =
    let t = offsets_of c.args.next.now in
    let w = c.args.chunk.now in
    let from = c.start_rows in
    let walk = c.walk_text-walked in
    let few : walk.result.looked ≤ 65536 = rw walk.ensures (looked_small t w from.result 65536 c.requires) in
    omega (arith, few)

pub returns : goal.returns
returns c =
    let t = offsets_of c.args.next.now in
    let w = c.args.chunk.now in
    let from = c.start_rows in
    let walk = c.walk_text-walked in
    let sets = c.args.sets.now in
    let next = c.args.next.now in
    let singles = c.args.singles.now in
    let is : walk.result ≡ walked_of t w (start_rows singles c.args.mask) = walk.ensures ∙ ap (walked_of t w) from.ensures in
    runs_are
    (c.end_masks.ensures ∙ ap (λ (x : Walked). end_masks sets x.rows) is ∙ ends sets next singles c.args.mask w)
    (c.summed.ensures ∙ ap (λ (x : Walked). total (λ q. get_or x.counts q 0) 32) is ∙ counted sets next singles c.args.mask w)
    (ap (λ (x : Walked). x.looked) is ∙ looks sets next singles c.args.mask w)
