-- `delegated` meets its contract. The loop's invariant: `out` is the union over the members below
-- q. Assumes nothing.
use mathlib.Core.Path.{◌≡◌, refl, sym, ap, ◌∙◌}
use Prim.Native.Nat.{ℕ}
use native.Mathlib.Omega.{arith}
use Rattle.masks.specs.Masks.{single, union}
use Rattle.delegates.specs.Alike.{delegate_in, of_delegate}
use Rattle.reduce.proofs.Ways.{more, skip}
use Rattle.reduce.proofs.delegated.Goals.{else-member, then-member}
use Rattle.reduce.proofs.delegated.Goals as goal

pub loop-q-init : goal.loop-q-init
unfolding union
loop-q-init c = refl

pub loop-q-preserved : goal.loop-q-preserved
loop-q-preserved c =
    let l = c.loop-q in
    let a = c.args in
    let f : ℕ → ℕ = λ p. of_delegate single (delegate_in a.delegates.now p) in
    elim c.if-member.branch [
      | then-member w ↦ w.out-is
          ∙ more f a.set l.q l.out l.invariant w.delegate_set.result w.union-out.result
          (sym c.member.ensures ∙ w.if-member.true)
          w.delegate_set.ensures
          w.union-out.ensures
      | else-member w ↦ w.out-is ∙ skip f a.set l.q l.out l.invariant (sym c.member.ensures ∙ w.if-member.false)
    ]

pub returns : goal.returns
returns c =
    let l = c.loop-q in
    let a = c.args in
    let e : l.q ≡ 32 = omega arith in
    l.invariant ∙ ap (union (λ p. of_delegate single (delegate_in a.delegates.now p)) a.set) e
