-- `store_arcs` meets its contract. The loop's invariant: each cell is what it was, with, in the row
-- of state q, the targets of the first i arcs. Assumes nothing.
use Rattle.ruleformat.proofs.Tables.{cell_after, none_stored, arc_stored}
use Rattle.ruleformat.proofs.Arcs.{bounds}
use Rattle.ruleformat.specs.Format.{arc_count, symbol_at, target_at}
use Rattle.masks.specs.Masks.{single}
use lib.ListN.{get_or, set, length-set}
use lib.Bits.{bit_or}
use native.Mathlib.Omega.{arith}
use Prim.Native.Nat.{ℕ, ◌+◌, ◌*◌, ◌/◌}
use mathlib.Core.Path.{◌≡◌, ap, ap₂, ◌∙◌}
use Rattle.rulefile.proofs.store_arcs.Goals as goal

pub loop-i-init : goal.loop-i-init
loop-i-init c =
    let a = c.args in
    let h = c.requires in
    (omega arith, omega (arith, h.0), h.1, h.2, none_stored a.targets.now a.section.now (16 * a.q.0 / 16))

pub bounds-targets-at : goal.bounds-targets-at
bounds-targets-at c =
    let x = c.loop-i in
    let s = bounds 32 16 c.args.section.now x.invariant.3 x.i (omega arith) in
    omega (arith, s.0, c.byte.ensures.0, x.invariant.1)

pub singleton-requires : goal.singleton-requires
singleton-requires c =
    let x = c.loop-i in
    let s = bounds 32 16 c.args.section.now x.invariant.3 x.i (omega arith) in
    s.1

pub bounds-targets-at-in-loop-i : goal.bounds-targets-at-in-loop-i
bounds-targets-at-in-loop-i c =
    let x = c.loop-i in
    let s = bounds 32 16 c.args.section.now x.invariant.3 x.i (omega arith) in
    omega (arith, s.0, c.byte.ensures.0, x.invariant.1)

pub loop-i-preserved : goal.loop-i-preserved
loop-i-preserved c =
    let x = c.loop-i in
    let s = bounds 32 16 c.args.section.now x.invariant.3 x.i (omega arith) in
    let a = c.args in
    let at = 16 * a.q.0 + c.byte.result in
    let is : at ≡ 16 * (16 * a.q.0 / 16) + symbol_at a.section.now x.i = omega (arith, c.byte.ensures.0) in
    let new : c.union.result ≡ bit_or (get_or x.targets at 0) (single (target_at a.section.now x.i)) = c.union.ensures ∙ ap (bit_or (get_or x.targets at 0)) c.singleton.ensures in (
      x.invariant.0,
      x.invariant.1,
      length-set x.targets at c.union.result ∙ x.invariant.2,
      x.invariant.3,
      λ cell.
          ap (λ (y : ℕ). get_or (set x.targets at y) cell 0) new
          ∙ arc_stored a.targets.now a.section.now (16 * a.q.0 / 16) x.i at is s.0 x.targets (omega (arith, x.invariant.2, s.0)) x.invariant.4 cell,
    )

pub returns : goal.returns
returns c =
    let x = c.loop-i in
    let a = c.args in
    let row : 16 * a.q.0 / 16 ≡ a.q.0 = omega arith in
    let all : x.i ≡ arc_count a.section.now = omega arith in
    (x.invariant.2, λ cell. x.invariant.4 cell ∙ ap₂ (λ (p j : ℕ). cell_after a.targets.now a.section.now p j cell) row all)
