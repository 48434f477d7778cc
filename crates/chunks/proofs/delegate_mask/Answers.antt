-- `delegate_mask` meets its contract. The loop's invariant: the set has the delegates of the
-- members below q. Assumes nothing.
use mathlib.Core.Path.{◌≡◌, refl, sym, ap, ap₂, ◌∙◌}
use Prim.Native.Nat.{min}
use native.Mathlib.Omega.{arith}
use lib.Bits.{bit_or}
use Rattle.masks.proofs.Laws.{union_member, union_other}
use Rattle.masks.specs.Masks.{single, union}
use Rattle.delegates.specs.Alike.{delegate_in, of_delegate}
use Rattle.chunks.proofs.delegate_mask.Goals.{else-member, then-member}
use Rattle.chunks.proofs.delegate_mask.Goals as goal

pub loop-q-init : goal.loop-q-init
unfolding union
loop-q-init c = refl

pub loop-q-preserved : goal.loop-q-preserved
loop-q-preserved c =
    let l = c.loop-q in
    let a = c.args in
    let d = a.delegates in
    (elim c.if-member.branch [
      | then-member w ↦ w.out-is
          ∙ w.union-out.ensures
          ∙ ap₂ bit_or l.invariant w.delegate_single.ensures
          ∙ union_member (λ p. of_delegate single (delegate_in d p)) a.set l.q (sym c.member.ensures ∙ w.if-member.true)
      | else-member w ↦ w.out-is ∙ l.invariant ∙ union_other (λ p. of_delegate single (delegate_in d p)) a.set l.q (sym c.member.ensures ∙ w.if-member.false)
    ])

pub returns : goal.returns
returns c =
    let l = c.loop-q in
    let a = c.args in
    let e : l.q ≡ min a.n 32 = omega arith in
    l.invariant ∙ ap (union (λ p. of_delegate single (delegate_in a.delegates p)) a.set) e
