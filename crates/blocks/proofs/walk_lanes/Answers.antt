-- `walk_lanes` meets its contract. The lanes before `from` have walked, and `looked` is the greatest
-- number of bytes that one of them looked up; the others stand where they stood. Assumes nothing.
use mathlib.Core.Path.{◌≡◌, sym, ◌∙◌}
use Prim.Native.Nat.{ℕ, ◌+◌, ◌-◌, ◌≤◌, ◌<◌}
use native.Mathlib.Omega.{arith}
use lib.ListN.{get_or, take, drop, length-take, length-drop}
use Rattle.lanes.specs.mirror.Offsets.{rows_end, rows_looked}
use Rattle.blocks.proofs.Eights.{walking_start, walking_low, walking_more, walking_ends, walking_looked}
use Rattle.blocks.proofs.walk_lanes.Goals as goal

pub loop-from-init : goal.loop-from-init
loop-from-init c =
    walking_start c.args.t.now c.args.part.now c.args.lane.now c.requires.1.size

pub slice_bounds-walk_eight-end : goal.slice_bounds-walk_eight-end
slice_bounds-walk_eight-end c = omega (arith, c.loop-from.invariant.eights, c.loop-from.invariant.size, c.requires.1.most)

pub walk_eight-n-requires : goal.walk_eight-n-requires
walk_eight-n-requires c =
    let l = c.loop-from in (
      c.requires.0,
      walking_low c.args.t.now c.args.part.now c.args.lane.now l.lane l.looked l.from l.invariant c.requires.1.rows (l.from + 8 - l.from),
      simp (length-take, length-drop) (omega (arith, l.invariant.eights, l.invariant.size, c.requires.1.most)),
    )

pub loop-from-smaller : goal.loop-from-smaller
loop-from-smaller c = omega (arith, c.loop-from.invariant.eights, c.requires.1.most)

pub loop-from-preserved : goal.loop-from-preserved
loop-from-preserved c =
    let l = c.loop-from in
    let w = c.walk_eight-n in
    let eight : l.from + 8 - l.from ≡ 8 = omega arith in
    let n : w.result ≡ rows_looked c.args.t.now c.args.part.now (take 8 (drop l.from l.lane)) 8 = rw eight at w.ensures.value in
    let ends : w.new.lane ≡ rows_end c.args.t.now c.args.part.now (take 8 (drop l.from l.lane)) 8 = rw eight at w.ensures.lane_after in
    rw eight
    (walking_more c.args.t.now c.args.part.now c.args.lane.now l.lane l.looked l.from l.invariant
    (omega (arith, l.invariant.eights, c.requires.1.most)) w.result w.new.lane c.max-looked.result n ends c.max-looked.ensures)

pub shape_of-lane : goal.shape_of-lane
shape_of-lane c = c.loop-from.invariant.size ∙ sym c.requires.1.size

pub returns : goal.returns
returns c =
    let l = c.loop-from in
    let rest : (k : ℕ) → l.from ≤ k → k < 40 → get_or c.args.lane.now k 0 ≡ 8192 = λ k h b. c.requires.1.rest k (omega arith) b in record { value = walking_looked c.args.t.now c.requires.0 c.args.part.now c.args.lane.now l.lane l.looked l.from l.invariant rest; lane_after = walking_ends c.args.t.now c.requires.0 c.args.part.now c.args.lane.now l.lane l.looked l.from l.invariant rest }
