-- `follow` meets its contract. The loop's invariant is `Behind`. Assumes nothing.
use mathlib.Core.Path.{◌≡◌, sym, ap, ◌∙◌}
use mathlib.Core.List.{List}
use Prim.Native.Nat.{ℕ, ◌≤◌, ◌<◌}
use native.Mathlib.Omega.{arith}
use lib.ListN.{get_or, take, drop, set, length-set}
use Rattle.base.proofs.Lists.{each_stored}
use Rattle.lanes.specs.mirror.Offsets.{row_looked, rows_end}
use Rattle.lanes.proofs.Following.{rest-is, behind_start, goes_on, behind_more, all_passed, all_dead_lem, behind_ends, behind_looked}
use Rattle.lanes.proofs.follow.Goals.{else-loop-i-test, then-loop-i-test+then-k-eq-LANES}
use Rattle.lanes.proofs.follow.Goals as goal

pub loop-i-init : goal.loop-i-init
loop-i-init c =
    behind_start c.args.t.now c.requires.0 c.args.part.now c.args.lane.now c.requires.1 c.requires.2

pub living-k-requires : goal.living-k-requires
living-k-requires c = c.loop-i.invariant.size

pub bounds-lane-k : goal.bounds-lane-k
bounds-lane-k c = omega (arith, c.loop-i.invariant.size, c.living-k.ensures.most, c.if-k-eq-LANES.false)

pub bounds-lane-0-in-loop-i : goal.bounds-lane-0-in-loop-i
bounds-lane-0-in-loop-i c = omega (arith, c.loop-i.invariant.size)

pub lead-i-requires : goal.lead-i-requires
lead-i-requires c =
    let l = c.loop-i in
    let k = c.living-k.result in
    let row = get_or l.lane k 0 in (
      c.requires.0,
      each_stored (λ b x. x ≤ 8192) l.lane 0 row (omega (arith, l.invariant.size)) l.invariant.low (l.invariant.low k),
      length-set l.lane 0 row ∙ l.invariant.size,
    )

pub overflow_add-i : goal.overflow_add-i
overflow_add-i c =
    let t = c.args.t.now in
    let w = c.args.part.now in
    let from = c.args.lane.now in
    let l = c.loop-i in
    let k = c.living-k in
    let some : k.result < 8 = omega (arith, k.ensures.most, c.if-k-eq-LANES.false) in
    let r = c.lead-i in
    let rest = rest-is w l.i in
    let lent = set l.lane 0 (get_or l.lane k.result 0) in
    let next = r.new.lane in
    let led : r.result ≡ row_looked t (drop l.i w) (get_or lent 0 0) = r.ensures.value ∙ ap (λ (x : List ℕ). row_looked t x (get_or lent 0 0)) rest in
    let ends : next ≡ rows_end t (take r.result (drop l.i w)) lent 8 = r.ensures.lane_after ∙ ap (λ (x : List ℕ). rows_end t (take r.result x) lent 8) rest in
    let more = behind_more t c.requires.0 w from c.requires.1 l.lane l.i l.invariant c.loop-i-test.true k.result k.ensures some r.result next led ends in
    omega (arith, more.within)

pub loop-i-smaller : goal.loop-i-smaller
loop-i-smaller c =
    let t = c.args.t.now in
    let w = c.args.part.now in
    let from = c.args.lane.now in
    let l = c.loop-i in
    let k = c.living-k in
    let some : k.result < 8 = omega (arith, k.ensures.most, c.if-k-eq-LANES.false) in
    let r = c.lead-i in
    let rest = rest-is w l.i in
    let lent = set l.lane 0 (get_or l.lane k.result 0) in
    let next = r.new.lane in
    let led : r.result ≡ row_looked t (drop l.i w) (get_or lent 0 0) = r.ensures.value ∙ ap (λ (x : List ℕ). row_looked t x (get_or lent 0 0)) rest in
    let ends : next ≡ rows_end t (take r.result (drop l.i w)) lent 8 = r.ensures.lane_after ∙ ap (λ (x : List ℕ). rows_end t (take r.result x) lent 8) rest in
    let more = goes_on t c.requires.0 w from c.requires.1 l.lane l.i l.invariant c.loop-i-test.true k.result k.ensures some r.result next led ends in
    omega (arith, more, c.loop-i-test.true)

pub loop-i-preserved : goal.loop-i-preserved
loop-i-preserved c =
    let t = c.args.t.now in
    let w = c.args.part.now in
    let from = c.args.lane.now in
    let l = c.loop-i in
    let k = c.living-k in
    let some : k.result < 8 = omega (arith, k.ensures.most, c.if-k-eq-LANES.false) in
    let r = c.lead-i in
    let rest = rest-is w l.i in
    let lent = set l.lane 0 (get_or l.lane k.result 0) in
    let next = r.new.lane in
    let led : r.result ≡ row_looked t (drop l.i w) (get_or lent 0 0) = r.ensures.value ∙ ap (λ (x : List ℕ). row_looked t x (get_or lent 0 0)) rest in
    let ends : next ≡ rows_end t (take r.result (drop l.i w)) lent 8 = r.ensures.lane_after ∙ ap (λ (x : List ℕ). rows_end t (take r.result x) lent 8) rest in
    behind_more t c.requires.0 w from c.requires.1 l.lane l.i l.invariant c.loop-i-test.true k.result k.ensures some r.result next led ends

pub bounds-lane-0-2 : goal.bounds-lane-0-2
bounds-lane-0-2 c = omega (arith, c.loop-i.invariant.size)

pub shape_of-lane : goal.shape_of-lane
shape_of-lane c = length-set c.loop-i.lane 0 (get_or c.args.lane.now 0 0) ∙ c.loop-i.invariant.size ∙ sym c.requires.2

pub returns : goal.returns
returns c =
    let t = c.args.t.now in
    let w0 = c.args.part.now in
    let from = c.args.lane.now in
    let l = c.loop-i in
    let last : (k : ℕ) → 1 ≤ k → k < 8 → row_looked t (drop l.i w0) (get_or l.lane k 0) ≡ 0 =
    elim c.loop-i-test.branch [
      | else-loop-i-test w ↦ all_passed t c.requires.0 w0 from c.requires.1 l.lane l.i l.invariant w.loop-i-test.false
      | then-loop-i-test+then-k-eq-LANES w ↦
          all_dead_lem t c.requires.0 w0 from c.requires.1 l.lane l.i l.invariant w.living-k.result w.living-k.ensures w.if-k-eq-LANES.true
    ] in
    record { value = behind_looked t c.requires.0 w0 from c.requires.1 l.lane l.i l.invariant c.requires.3 last; lane_after = behind_ends t c.requires.0 w0 from c.requires.1 l.lane l.i l.invariant c.requires.3 last }
