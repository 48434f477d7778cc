-- `set_mask` meets its contract. The loop's invariant: `out` has the places below p. Assumes
-- nothing.
use mathlib.Core.Path.{◌≡◌, refl, sym, ap, ◌∙◌}
use mathlib.Core.Bool.{Bool}
use Prim.Native.Nat.{ℕ}
use native.Mathlib.Omega.{arith}
use lib.Bits.{bit_or}
use lib.ListN.{get_or}
use Rattle.masks.specs.Masks.{has, mask_of}
use Rattle.masks.proofs.Passing.{mask_add, mask_skip}
use Rattle.merging.specs.Merged.{set_of}
use Rattle.mergereduced.specs.mirror.Asked.{places_in}
use Rattle.mergereduced.proofs.set_mask.Goals.{else-in_set, then-in_set}
use Rattle.mergereduced.proofs.set_mask.Goals as goal

pub loop-p-init : goal.loop-p-init
unfolding mask_of
loop-p-init c =
    refl

pub offset_bounds-list-p : goal.offset_bounds-list-p
offset_bounds-list-p c = omega (arith, c.loop-p-test.true, c.requires.2.fits)

pub bounds-list-p : goal.bounds-list-p
bounds-list-p c = omega (arith, c.loop-p-test.true, c.requires.2.fits)

pub in_set-requires : goal.in_set-requires
in_set-requires c =
    let g = c.requires in
    (g.0, g.1, g.2.states c.loop-p.p c.loop-p-test.true)

pub overflow_cast-p : goal.overflow_cast-p
overflow_cast-p c = omega (arith, c.loop-p-test.true, c.requires.2.fits)

pub singleton-requires : goal.singleton-requires
singleton-requires c = omega (arith, c.loop-p-test.true, c.requires.2.fits)

pub loop-p-preserved : goal.loop-p-preserved
loop-p-preserved c =
    let l = c.loop-p in
    let a = c.args in
    let f : ℕ → Bool = λ x. has (set_of a.way a.n1 a.n2 a.a a.b) (get_or a.list.now x 0) in
    let is = sym c.in_set.ensures in
    elim c.if-in_set.branch [
      | then-in_set w ↦ w.out-is ∙ w.union-out.ensures ∙ ap (bit_or l.out) w.singleton.ensures ∙ mask_add f l.p l.out l.invariant (is ∙ w.if-in_set.true)
      | else-in_set w ↦ w.out-is ∙ mask_skip f l.p l.out l.invariant (is ∙ w.if-in_set.false)
    ]

pub returns : goal.returns
returns c =
    let l = c.loop-p in
    let a = c.args in
    let e : l.p ≡ a.c = omega arith in
    l.invariant ∙ ap (λ (x : ℕ). places_in a.list.now x (set_of a.way a.n1 a.n2 a.a a.b)) e
