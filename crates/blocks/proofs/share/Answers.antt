-- `share` meets its contract. The loop's invariant is `Held`. Assumes nothing.
use mathlib.Core.Path.{◌∙◌}
use Prim.Native.Nat.{ℕ, ◌/◌, ◌<◌}
use native.Mathlib.Omega.{arith}
use lib.ListN.{get_or, length-set, length-replicate}
use Rattle.blocks.proofs.Lanes.{held_none, held_old, held_new, shared}
use Rattle.blocks.proofs.share.Goals.{else-k-used, then-k-used}
use Rattle.blocks.proofs.share.Goals as goal

pub loop-j-init : goal.loop-j-init
loop-j-init c = (held_none c.args.rows _ (length-replicate {A = ℕ} 32 0), length-replicate {A = ℕ} 513 0)

pub bounds-hints-set : goal.bounds-hints-set
bounds-hints-set c = omega (arith, c.requires c.loop-j.j, c.loop-j.invariant.1)

pub hinted-k-requires : goal.hinted-k-requires
hinted-k-requires c = omega (arith, c.loop-j.invariant.0.most)

pub bounds-lane-used : goal.bounds-lane-used
bounds-lane-used c = omega (arith, c.loop-j.invariant.0.most, c.loop-j.invariant.0.lanes)

pub overflow_cast-hints : goal.overflow_cast-hints
overflow_cast-hints c = omega (arith, c.loop-j.invariant.0.most)

pub bounds-hints-set-then-k-used : goal.bounds-hints-set-then-k-used
bounds-hints-set-then-k-used c = omega (arith, c.requires c.loop-j.j, c.loop-j.invariant.1)

pub overflow_add-used : goal.overflow_add-used
overflow_add-used c = omega (arith, c.loop-j.invariant.0.most)

pub bounds-of-j : goal.bounds-of-j
bounds-of-j c = omega (arith, c.loop-j.invariant.0.runs)

pub loop-j-preserved : goal.loop-j-preserved
loop-j-preserved c =
    let l = c.loop-j in
    let rows = c.args.rows in
    let k = c.hinted-k in
    (elim c.if-k-used.branch [
      | then-k-used w ↦ (
        rw (w.lane-is, w.used-is, w.if-k-used.true) (held_new rows l.lane l.of l.used l.j l.invariant.0 (omega arith)),
        rw w.hints-is (length-set l.hints (get_or rows l.j 0 / 16) l.used ∙ l.invariant.1),
      )
      | else-k-used w ↦ let less : k.result < l.used = omega (arith, k.ensures.0, w.if-k-used.false) in (
        rw (w.lane-is, w.used-is) (held_old rows l.lane l.of l.used l.j l.invariant.0 (omega arith) k.result less (k.ensures.1 less)),
        rw w.hints-is l.invariant.1,
      )
    ])

pub returns : goal.returns
returns c =
    let l = c.loop-j in
    shared c.args.rows l.lane l.of l.used l.j l.invariant.0 (omega arith) c.requires
