-- `section_breaks` meets its contract. The loop's invariant: no arc before i breaks the rule, and
-- `past` is one more than the arc before i, as a number. Assumes nothing.
use Rattle.base.proofs.Conditions.{none_yet, none_more}
use Rattle.ruleformat.proofs.Arcs.{past_of, bad_symbol, bad_target_lem, bad_order, good_arc, section_at, section_end}
use Rattle.ruleformat.specs.Refusals.{bad_arc}
use Rattle.ruleformat.specs.Format.{arc_count}
use native.Mathlib.Omega.{arith}
use native.Mathlib.Numerals.{add-one}
use Prim.Native.Nat.{ℕ, ◌+◌, ◌*◌}
use mathlib.Core.Path.{◌≡◌, refl, sym, ap, ap₂, ◌∙◌}
use Rattle.rulefile.proofs.section_breaks.Goals as goal

pub loop-i-init : goal.loop-i-init
loop-i-init c = let a = c.args in (refl, none_yet (bad_arc a.n a.k a.section.now))

pub returns-then-k-symbol : goal.returns-then-k-symbol
returns-then-k-symbol c =
    let x = c.loop-i in
    let a = c.args in
    sym
    (section_at a.n a.k a.section.now x.i (omega arith)
    (bad_symbol a.n a.k a.section.now x.i (rw c.byte-symbol.ensures.0 at c.if-k-symbol.true)))

pub returns-then-n-target : goal.returns-then-n-target
returns-then-n-target c =
    let x = c.loop-i in
    let a = c.args in
    sym
    (section_at a.n a.k a.section.now x.i (omega arith)
    (bad_target_lem a.n a.k a.section.now x.i (rw c.byte-target.ensures.0 at c.if-n-target.true)))

pub returns-then-arc-past : goal.returns-then-arc-past
returns-then-arc-past c =
    let x = c.loop-i in
    let a = c.args in
    let s = c.byte-symbol.ensures.0 in
    let t = c.byte-target.ensures.0 in
    sym
    (section_at a.n a.k a.section.now x.i (omega arith)
    (bad_order a.n a.k a.section.now x.i
    (λ j. (c.type_inv.section (2 * j + 1)).fits)
    (omega (arith, x.invariant.0, s, t))))

pub loop-i-preserved : goal.loop-i-preserved
loop-i-preserved c =
    let x = c.loop-i in
    let a = c.args in
    let s = c.byte-symbol.ensures.0 in
    let t = c.byte-target.ensures.0 in (
      ap₂ (λ (y z : ℕ). 256 * y + z + 1) s t ∙ ap (past_of a.section.now) (sym (add-one x.i)),
      none_more (bad_arc a.n a.k a.section.now) x.i x.invariant.1
          (good_arc a.n a.k a.section.now x.i
          (λ j. (c.type_inv.section (2 * j + 1)).fits)
          (omega (arith, s))
          (omega (arith, t))
          (omega (arith, x.invariant.0, s, t))),
    )

pub returns : goal.returns
returns c =
    let x = c.loop-i in
    let a = c.args in
    let e : x.i ≡ arc_count a.section.now = omega arith in
    sym (section_end a.n a.k a.section.now (rw e at x.invariant.1))
