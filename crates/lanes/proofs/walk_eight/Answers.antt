-- `walk_eight` meets its contract. The first run leads, and the others follow over the rest of the
-- bytes. Assumes nothing.
use mathlib.Core.Path.{◌≡◌, sym, ap, ◌∙◌}
use mathlib.Core.List.{List}
use Prim.Native.Nat.{ℕ, ◌-◌, ◌≤◌}
use native.Mathlib.Omega.{arith}
use lib.ListN.{length, get_or, take, drop}
use Rattle.base.proofs.Lists.{length_list_from}
use Rattle.base.proofs.Totals.{greatest_most}
use Rattle.walks.proofs.Steps.{looked_most}
use Rattle.lanes.specs.mirror.Offsets.{hop_of, row_end, row_looked, rows_end, rows_looked}
use Rattle.lanes.proofs.Following.{rest-is, led_low, led_size, led_first, led_ends, led_looked}
use Rattle.lanes.proofs.walk_eight.Goals as goal

pub slice_bounds-follow-count : goal.slice_bounds-follow-count
slice_bounds-follow-count c = omega (arith, c.lead-i.ensures.value, looked_most (hop_of c.args.t.now) 8192 (get_or c.args.lane.now 0 0) c.args.part.now)

pub slice_bounds-follow-start : goal.slice_bounds-follow-start
slice_bounds-follow-start c = omega (arith, c.lead-i.ensures.value, looked_most (hop_of c.args.t.now) 8192 (get_or c.args.lane.now 0 0) c.args.part.now)

pub follow-requires : goal.follow-requires
follow-requires c =
    let t = c.args.t.now in
    let w = c.args.part.now in
    let from = c.args.lane.now in
    let r = c.lead-i in
    let lane = r.new.lane in
    let first : row_looked t (take (length w - r.result) (drop r.result w)) (get_or lane 0 0) ≡ 0 = rw (rest-is w r.result) (led_first t c.requires.0 w from c.requires.1 r.result lane r.ensures.value r.ensures.lane_after) in
    (c.requires.0, led_low t c.requires.0 w from c.requires.1 r.result lane r.ensures.value r.ensures.lane_after, led_size t c.requires.0 w from c.requires.1 r.result lane r.ensures.value r.ensures.lane_after, first)

pub overflow_add-result : goal.overflow_add-result
overflow_add-result c =
    let t = c.args.t.now in
    let w = c.args.part.now in
    let from = c.args.lane.now in
    let r = c.lead-i in
    let lane = r.new.lane in
    let f = c.follow in
    let rest = rest-is w r.result in
    let next = f.new.lane in
    let n : f.result ≡ rows_looked t (drop r.result w) lane 8 = f.ensures.value ∙ ap (λ (x : List ℕ). rows_looked t x lane 8) rest in
    let ends : next ≡ rows_end t (drop r.result w) lane 8 = f.ensures.lane_after ∙ ap (λ (x : List ℕ). rows_end t x lane 8) rest in
    let most : rows_looked t w from 8 ≤ length w = greatest_most (λ k. row_looked t w (get_or from k 0)) (length w) 8 (λ k b. looked_most (hop_of t) 8192 (get_or from k 0) w) in
    omega (arith, led_looked t c.requires.0 w from c.requires.1 r.result lane r.ensures.value r.ensures.lane_after f.result n)

pub shape_of-lane : goal.shape_of-lane
shape_of-lane c =
    let t = c.args.t.now in
    let w = c.args.part.now in
    let from = c.args.lane.now in
    let r = c.lead-i in
    let lane = r.new.lane in
    let f = c.follow in
    let rest = rest-is w r.result in
    let next = f.new.lane in
    let n : f.result ≡ rows_looked t (drop r.result w) lane 8 = f.ensures.value ∙ ap (λ (x : List ℕ). rows_looked t x lane 8) rest in
    let ends : next ≡ rows_end t (drop r.result w) lane 8 = f.ensures.lane_after ∙ ap (λ (x : List ℕ). rows_end t x lane 8) rest in
    ap length ends ∙ length_list_from 0 8 (λ k. row_end t (drop r.result w) (get_or lane k 0)) ∙ sym c.requires.2

pub returns : goal.returns
returns c =
    let t = c.args.t.now in
    let w = c.args.part.now in
    let from = c.args.lane.now in
    let r = c.lead-i in
    let lane = r.new.lane in
    let f = c.follow in
    let rest = rest-is w r.result in
    let next = f.new.lane in
    let n : f.result ≡ rows_looked t (drop r.result w) lane 8 = f.ensures.value ∙ ap (λ (x : List ℕ). rows_looked t x lane 8) rest in
    let ends : next ≡ rows_end t (drop r.result w) lane 8 = f.ensures.lane_after ∙ ap (λ (x : List ℕ). rows_end t x lane 8) rest in
    record { value = led_looked t c.requires.0 w from c.requires.1 r.result lane r.ensures.value r.ensures.lane_after f.result n; lane_after = led_ends t c.requires.0 w from c.requires.1 r.result lane r.ensures.value r.ensures.lane_after next ends }
