-- `lead` meets its contract. Each of the eight is on its run, and the first leads. Assumes nothing.
use Prim.Native.Nat.{◌<◌}
use native.Mathlib.Omega.{arith}
use lib.ListN.{length, get_or, take, length-set}
use Rattle.lanes.specs.mirror.Offsets.{row_end}
use Rattle.lanes.proofs.Leading.{in_column, on_start, on_more, leads_start, leads_on, leads_off, leads_end, eight}
use Rattle.lanes.proofs.lead.Goals as goal

pub loop-i-init : goal.loop-i-init
loop-i-init c =
    let t = c.args.t.now in
    let w = c.args.part.now in
    let r = c.span-end.ensures in (
      leads_start t c.requires.0 w r.0 r.1 r.2,
      on_start t c.requires.0 w (c.requires.1 0),
      on_start t c.requires.0 w (c.requires.1 1),
      on_start t c.requires.0 w (c.requires.1 2),
      on_start t c.requires.0 w (c.requires.1 3),
      on_start t c.requires.0 w (c.requires.1 4),
      on_start t c.requires.0 w (c.requires.1 5),
      on_start t c.requires.0 w (c.requires.1 6),
      on_start t c.requires.0 w (c.requires.1 7),
    )

pub bounds-part-i : goal.bounds-part-i
bounds-part-i c = omega (arith, c.loop-i.invariant.0.within, c.loop-i-test.true)

pub hop-r0-requires : goal.hop-r0-requires
hop-r0-requires c =
    let l = c.loop-i in
    in_column c.args.t.now c.requires.0 c.args.part.now (get_or c.args.part.now l.i 0) l.r0 l.invariant.1.low

pub hop-r1-requires : goal.hop-r1-requires
hop-r1-requires c =
    let l = c.loop-i in
    in_column c.args.t.now c.requires.0 c.args.part.now (get_or c.args.part.now l.i 0) l.r1 l.invariant.2.low

pub hop-r2-requires : goal.hop-r2-requires
hop-r2-requires c =
    let l = c.loop-i in
    in_column c.args.t.now c.requires.0 c.args.part.now (get_or c.args.part.now l.i 0) l.r2 l.invariant.3.low

pub hop-r3-requires : goal.hop-r3-requires
hop-r3-requires c =
    let l = c.loop-i in
    in_column c.args.t.now c.requires.0 c.args.part.now (get_or c.args.part.now l.i 0) l.r3 l.invariant.4.low

pub hop-r4-requires : goal.hop-r4-requires
hop-r4-requires c =
    let l = c.loop-i in
    in_column c.args.t.now c.requires.0 c.args.part.now (get_or c.args.part.now l.i 0) l.r4 l.invariant.5.low

pub hop-r5-requires : goal.hop-r5-requires
hop-r5-requires c =
    let l = c.loop-i in
    in_column c.args.t.now c.requires.0 c.args.part.now (get_or c.args.part.now l.i 0) l.r5 l.invariant.6.low

pub hop-r6-requires : goal.hop-r6-requires
hop-r6-requires c =
    let l = c.loop-i in
    in_column c.args.t.now c.requires.0 c.args.part.now (get_or c.args.part.now l.i 0) l.r6 l.invariant.7.low

pub hop-r7-requires : goal.hop-r7-requires
hop-r7-requires c =
    let l = c.loop-i in
    in_column c.args.t.now c.requires.0 c.args.part.now (get_or c.args.part.now l.i 0) l.r7 l.invariant.8.low

pub loop-i-preserved-then-r0-ge-EMPTY_ROW : goal.loop-i-preserved-then-r0-ge-EMPTY_ROW
loop-i-preserved-then-r0-ge-EMPTY_ROW c =
    let o = c.loop-i in
    let h = c.loop-i-test.true in
    let t = c.args.t.now in
    let w = c.args.part.now in
    let table = c.requires.0 in
    let l : o.i < length w = omega (arith, h, o.invariant.0.within) in (
      leads_off t table w h o.invariant.1 o.invariant.0 c.hop-r0.ensures c.if-r0-ge-EMPTY_ROW.true,
      on_more t table w l o.invariant.1 c.hop-r0.ensures,
      on_more t table w l o.invariant.2 c.hop-r1.ensures,
      on_more t table w l o.invariant.3 c.hop-r2.ensures,
      on_more t table w l o.invariant.4 c.hop-r3.ensures,
      on_more t table w l o.invariant.5 c.hop-r4.ensures,
      on_more t table w l o.invariant.6 c.hop-r5.ensures,
      on_more t table w l o.invariant.7 c.hop-r6.ensures,
      on_more t table w l o.invariant.8 c.hop-r7.ensures,
    )

pub loop-i-preserved : goal.loop-i-preserved
loop-i-preserved c =
    let o = c.loop-i in
    let h = c.loop-i-test.true in
    let t = c.args.t.now in
    let w = c.args.part.now in
    let table = c.requires.0 in
    let l : o.i < length w = omega (arith, h, o.invariant.0.within) in (
      leads_on t table w h o.invariant.1 o.invariant.0 c.hop-r0.ensures c.if-r0-ge-EMPTY_ROW.false,
      on_more t table w l o.invariant.1 c.hop-r0.ensures,
      on_more t table w l o.invariant.2 c.hop-r1.ensures,
      on_more t table w l o.invariant.3 c.hop-r2.ensures,
      on_more t table w l o.invariant.4 c.hop-r3.ensures,
      on_more t table w l o.invariant.5 c.hop-r4.ensures,
      on_more t table w l o.invariant.6 c.hop-r5.ensures,
      on_more t table w l o.invariant.7 c.hop-r6.ensures,
      on_more t table w l o.invariant.8 c.hop-r7.ensures,
    )

pub bounds-lane-1-2 : goal.bounds-lane-1-2
bounds-lane-1-2 c = simp length-set (omega arith)

pub bounds-lane-2-2 : goal.bounds-lane-2-2
bounds-lane-2-2 c = simp length-set (omega arith)

pub bounds-lane-3-2 : goal.bounds-lane-3-2
bounds-lane-3-2 c = simp length-set (omega arith)

pub bounds-lane-4-2 : goal.bounds-lane-4-2
bounds-lane-4-2 c = simp length-set (omega arith)

pub bounds-lane-5-2 : goal.bounds-lane-5-2
bounds-lane-5-2 c = simp length-set (omega arith)

pub bounds-lane-6-2 : goal.bounds-lane-6-2
bounds-lane-6-2 c = simp length-set (omega arith)

pub bounds-lane-7-2 : goal.bounds-lane-7-2
bounds-lane-7-2 c = simp length-set (omega arith)

pub shape_of-lane : goal.shape_of-lane
shape_of-lane c = simp length-set

pub returns : goal.returns
returns c =
    let o = c.loop-i in
    let t = c.args.t.now in
    let w = c.args.part.now in
    let n = leads_end t c.requires.0 w c.loop-i-test.false o.invariant.0 in
    record { value = n; lane_after = eight (λ k. row_end t (take o.i w) (get_or c.args.lane.now k 0)) c.args.lane.now c.requires.2 o.invariant.1.is o.invariant.2.is o.invariant.3.is o.invariant.4.is o.invariant.5.is o.invariant.6.is o.invariant.7.is o.invariant.8.is }
