-- `targets_of` meets its contract. The loop's invariant: `out` is the union over the members below
-- q. Assumes nothing.
use mathlib.Core.Path.{◌≡◌, refl, sym, ap, ◌∙◌}
use Prim.Native.Nat.{ℕ}
use native.Mathlib.Omega.{arith}
use Rattle.masks.specs.Masks.{union}
use Rattle.reducing.specs.Reduced.{row_of}
use Rattle.reduce.proofs.Ways.{more, skip}
use Rattle.reduce.proofs.targets_of.Goals.{else-member, then-member}
use Rattle.reduce.proofs.targets_of.Goals as goal

pub loop-q-init : goal.loop-q-init
unfolding union
loop-q-init c = refl

pub loop-q-preserved : goal.loop-q-preserved
loop-q-preserved c =
    let l = c.loop-q in
    let a = c.args in
    let f : ℕ → ℕ = λ x. row_of a.targets.now a.delegates.now a.kept a.p a.s x in
    elim c.if-member.branch [
      | then-member w ↦ w.out-is
          ∙ more f a.kept l.q l.out l.invariant w.row_set.result w.union-out.result
          (sym c.member.ensures ∙ w.if-member.true)
          w.row_set.ensures
          w.union-out.ensures
      | else-member w ↦ w.out-is ∙ skip f a.kept l.q l.out l.invariant (sym c.member.ensures ∙ w.if-member.false)
    ]

pub returns : goal.returns
returns c =
    let l = c.loop-q in
    let a = c.args in
    let e : l.q ≡ 32 = omega arith in
    l.invariant ∙ ap (union (λ x. row_of a.targets.now a.delegates.now a.kept a.p a.s x) a.kept) e
