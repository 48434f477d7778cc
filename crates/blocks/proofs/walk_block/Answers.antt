-- `walk_block` meets its contract: the runs get lanes, the lanes walk, and each run takes its lane's
-- end and count. Assumes nothing.
use mathlib.Core.Path.{ap, ◌∙◌}
use Rattle.blocks.specs.mirror.Blocks.{pick_of}
use Rattle.blocks.proofs.Lanes.{ends_picked, counts_picked, looked_shared}
use Rattle.blocks.proofs.Parts.{walked_is}
use Rattle.blocks.proofs.walk_block.Goals as goal

pub walk_lanes-looked-requires : goal.walk_lanes-looked-requires
walk_lanes-looked-requires c =
    let h = c.share-sharing in
    let r = h.result in
    (c.requires.0, h.ensures.lanes)

pub tally-spent-requires : goal.tally-spent-requires
tally-spent-requires c =
    let h = c.share-sharing in
    let r = h.result in
    (c.requires.0, h.ensures.lanes, c.walk_lanes-looked.ensures.lane_after)

pub returns : goal.returns
returns c =
    let h = c.share-sharing in
    let r = h.result in
    let t = c.args.t.now in
    let w = c.args.part.now in
    let walk = c.walk_lanes-looked in
    walked_is
    (c.pick-ends.ensures ∙ ap (pick_of r.of) walk.ensures.lane_after ∙ ends_picked t w c.args.rows r.lane r.of r.used h.ensures)
    (c.pick-counts.ensures ∙ ap (pick_of r.of) c.tally-spent.ensures ∙ counts_picked t w c.args.rows r.lane r.of r.used h.ensures)
    (walk.ensures.value ∙ looked_shared t w c.args.rows r.lane r.of r.used h.ensures)
