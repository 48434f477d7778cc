-- `arcs_break` meets its contract. The loop's invariant: no section before q has a bad arc. Each
-- section lies in the file, since condition 7 does not hold. Assumes nothing.
use Rattle.base.specs.Conditions.{any_below}
use Rattle.base.proofs.Conditions.{none_yet, none_more, any_at}
use Rattle.ruleformat.proofs.Pairs.{within, section_part}
use Rattle.ruleformat.specs.Refusals.{bad_section, bad_arcs}
use Rattle.ruleformat.specs.Format.{state_count, symbol_count, offset_of, length_of, section}
use lib.ListN.{take, drop}
use native.Mathlib.Omega.{arith}
use Prim.Native.Nat.{ℕ, ◌+◌, ◌-◌, ◌<◌}
use mathlib.Core.List.{List}
use mathlib.Core.Bool.{Bool, true, false}
use mathlib.Core.Path.{◌≡◌, sym, ap, ap₂, ◌∙◌}
use Rattle.rulefile.proofs.arcs_break.Goals as goal

-- what the test of a part of the file says of a section
tested : (f : List ℕ) (q n k from len : ℕ) (r : Bool) → n ≡ state_count f → k ≡ symbol_count f → from ≡ offset_of f q → len ≡ length_of f q
    → r ≡ bad_section n k (take (from + len - from) (drop from f)) → bad_section (state_count f) (symbol_count f) (section f q) ≡ r
tested f q n k from len r en ek eo el e =
    sym (e ∙ ap (bad_section n k) (section_part f q from len eo el) ∙ ap₂ (λ (x y : ℕ). bad_section x y (section f q)) en ek)

arcs-at : (f : List ℕ) (q : ℕ) → q < state_count f → bad_section (state_count f) (symbol_count f) (section f q) ≡ true → bad_arcs f ≡ true
unfolding bad_arcs
arcs-at f q h e = any_at (λ p. bad_section (state_count f) (symbol_count f) (section f p)) (state_count f) q h e

arcs-end : (f : List ℕ) → any_below (λ p. bad_section (state_count f) (symbol_count f) (section f p)) (state_count f) ≡ false → bad_arcs f ≡ false
unfolding bad_arcs
arcs-end f e = e

pub loop-q-init : goal.loop-q-init
loop-q-init c =
    let f = c.args.file.now in
    let h = c.requires in
    let n = c.byte-n.ensures in
    (n.0, c.byte-k.ensures.0, n.1, omega (arith, n.0, h.1), h.2, none_yet (λ p. bad_section (state_count f) (symbol_count f) (section f p)))

pub slice_bounds-section_breaks-end : goal.slice_bounds-section_breaks-end
slice_bounds-section_breaks-end c =
    let x = c.loop-q in
    omega (arith, within c.args.file.now x.invariant.4 x.q (omega (arith, x.invariant.0)), c.half-from.ensures.0, c.half-len.ensures.0)

pub returns-then-section_breaks : goal.returns-then-section_breaks
returns-then-section_breaks c =
    let x = c.loop-q in
    let f = c.args.file.now in
    sym
    (arcs-at f x.q (omega (arith, x.invariant.0))
    (tested f x.q c.byte-n.result c.byte-k.result c.half-from.result c.half-len.result c.section_breaks.result x.invariant.0 x.invariant.1 c.half-from.ensures.0 c.half-len.ensures.0 c.section_breaks.ensures
    ∙ c.if-section_breaks.true))

pub loop-q-preserved : goal.loop-q-preserved
loop-q-preserved c =
    let x = c.loop-q in
    let f = c.args.file.now in (
      x.invariant.0,
      x.invariant.1,
      x.invariant.2,
      x.invariant.3,
      x.invariant.4,
      none_more (λ p. bad_section (state_count f) (symbol_count f) (section f p)) x.q x.invariant.5
          (tested f x.q c.byte-n.result c.byte-k.result c.half-from.result c.half-len.result c.section_breaks.result x.invariant.0 x.invariant.1 c.half-from.ensures.0 c.half-len.ensures.0 c.section_breaks.ensures
          ∙ c.if-section_breaks.false),
    )

pub returns : goal.returns
returns c =
    let x = c.loop-q in
    let f = c.args.file.now in
    let e : x.q ≡ state_count f = omega (arith, x.invariant.0) in
    sym (arcs-end f (rw e at x.invariant.5))
