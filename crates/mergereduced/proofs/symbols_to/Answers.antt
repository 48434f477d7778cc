-- `symbols_to` meets its contract. The loop's invariant: `out` has the symbols passed. Assumes
-- nothing.
use mathlib.Core.Path.{◌≡◌, refl, sym, ap, ◌∙◌}
use Prim.Native.Nat.{ℕ}
use native.Mathlib.Omega.{arith}
use lib.Bits.{bit_or}
use Rattle.masks.specs.Masks.{has, mask_of}
use Rattle.masks.proofs.Passing.{mask_add, mask_skip}
use Rattle.automaton.specs.Rules.{target_mask}
use Rattle.mergereduced.proofs.symbols_to.Goals.{else-member, then-member}
use Rattle.mergereduced.proofs.symbols_to.Goals as goal

pub loop-s-init : goal.loop-s-init
unfolding mask_of
loop-s-init c =
    refl

pub loop-s-preserved : goal.loop-s-preserved
loop-s-preserved c =
    let l = c.loop-s in
    let a = c.args in
    let is = sym (ap (λ (x : ℕ). has x a.y) c.mask_at.ensures) ∙ sym c.member.ensures in
    elim c.if-member.branch [
      | then-member w ↦ w.out-is ∙ ap (bit_or l.out) w.only_symbol-out.ensures ∙ mask_add (λ z. has (target_mask a.t.now a.x z) a.y) l.s l.out l.invariant (is ∙ w.if-member.true)
      | else-member w ↦ w.out-is ∙ mask_skip (λ z. has (target_mask a.t.now a.x z) a.y) l.s l.out l.invariant (is ∙ w.if-member.false)
    ]

pub returns : goal.returns
returns c =
    let l = c.loop-s in
    let a = c.args in
    let e : l.s ≡ 16 = omega arith in
    l.invariant ∙ ap (mask_of (λ z. has (target_mask a.t.now a.x z) a.y)) e
