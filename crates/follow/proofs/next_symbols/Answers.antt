-- `next_symbols` meets its contract. Assumes nothing.
use Rattle.std.proofs.Common.{◌≡◌, ℕ, min, Bool, sym, refl, ap, ◌∙◌, arith}
use lib.Bits.{bit_or}
use Rattle.masks.specs.Masks.{shares, mask_of}
use Rattle.masks.proofs.Passing.{mask_add, mask_skip}
use Rattle.automaton.specs.Successor.{successor}
use Rattle.follow.specs.Following.{next_by}
use Rattle.follow.proofs.Ways.{no_more}
use Rattle.follow.proofs.next_symbols.Goals.{else-meets, then-meets}
use Rattle.follow.proofs.next_symbols.Goals as goal

pub loop-s-init : goal.loop-s-init
unfolding mask_of
loop-s-init c = refl

pub loop-s-preserved : goal.loop-s-preserved
loop-s-preserved c =
    let l = c.loop-s in
    let a = c.args in
    let test : ℕ → Bool = λ x. shares (successor a.targets.now a.set x) a.live in
    let is : c.meets.result ≡ test l.s =
    c.meets.ensures ∙ ap (λ (x : ℕ). shares x a.live) c.successor-reached.ensures in
    (elim c.if-meets.branch [
      | then-meets x ↦ x.mask-is ∙ ap (bit_or l.mask) x.only_symbol-mask.ensures ∙ mask_add test l.s l.mask l.invariant (sym is ∙ x.if-meets.true)
      | else-meets x ↦ x.mask-is ∙ mask_skip test l.s l.mask l.invariant (sym is ∙ x.if-meets.false)
    ])

pub returns : goal.returns
returns c =
    let l = c.loop-s in
    let a = c.args in
    let q : l.s ≡ min a.k 16 = omega arith in
    l.invariant ∙ ap (λ (x : ℕ). next_by a.targets.now a.live x a.set) q ∙ no_more a.targets.now a.live a.set a.k
