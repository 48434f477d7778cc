-- `renamed` meets its contract. The loop's invariant: `out` has the new numbers of the members
-- below q. Assumes nothing.
use mathlib.Core.Path.{◌≡◌, refl, sym, ap, ◌∙◌}
use Prim.Native.Nat.{ℕ}
use native.Mathlib.Omega.{arith}
use lib.Bits.{bit_and}
use borrow.Author.Rules.{rules}
use Rattle.masks.specs.Masks.{single, union}
use Rattle.masks.specs.Turns.{rank}
use Rattle.reduce.proofs.Ways.{count_low, more, skip}
use Rattle.reduce.proofs.renamed.Goals.{else-member, then-member}
use Rattle.reduce.proofs.renamed.Goals as goal

pub loop-q-init : goal.loop-q-init
unfolding union
loop-q-init c = refl

pub singleton-requires : goal.singleton-requires
singleton-requires c = search (rules, count_low)

pub loop-q-preserved : goal.loop-q-preserved
loop-q-preserved c =
    let l = c.loop-q in
    let a = c.args in
    let f : ℕ → ℕ = λ p. single (rank a.kept p) in
    let both : ℕ = bit_and a.kept a.set in
    elim c.if-member.branch [
      | then-member w ↦ w.out-is
          ∙ more f both l.q l.out l.invariant w.singleton.result w.union-out.result
          (sym c.member.ensures ∙ w.if-member.true)
          (w.singleton.ensures ∙ ap single w.count-new.ensures)
          w.union-out.ensures
      | else-member w ↦ w.out-is ∙ skip f both l.q l.out l.invariant (sym c.member.ensures ∙ w.if-member.false)
    ]

pub returns : goal.returns
returns c =
    let l = c.loop-q in
    let a = c.args in
    let e : l.q ≡ 32 = omega arith in
    l.invariant ∙ ap (union (λ p. single (rank a.kept p)) (bit_and a.kept a.set)) e
