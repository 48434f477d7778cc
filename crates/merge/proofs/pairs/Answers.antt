-- `pairs` meets its contract: `out` is the union over the members below q, and `at` is q * n2.
-- Assumes nothing.
use mathlib.Core.Path.{◌≡◌, refl, ap, ◌∙◌}
use Prim.Native.Nat.{ℕ, ◌+◌, ◌*◌, ◌^◌, ◌≤◌, ◌<◌}
use native.Mathlib.Omega.{arith}
use lib.Bits.{bit_or}
use lib.Pow.{shl_exact}
use Rattle.masks.specs.Masks.{union}
use Rattle.masks.proofs.Laws.{union_step, union_skip, union_all}
use Rattle.merge.proofs.Numbers.{next_in_lem, next_at_lem, few_left}
use Rattle.merge.proofs.pairs.Goals.{In-loop-q, else-a-q-eq1, then-a-q-eq1}
use Rattle.merge.proofs.pairs.Goals as goal

-- where q is below n1 there is room for n2 states more
room : (c : In-loop-q) → (c.loop-q.q < 32) × (c.loop-q.at + c.args.n2 ≤ 32)
room c =
    let x = c.loop-q in
    let l = next_in_lem x.q c.args.n1 c.args.n2 c.loop-q-test.true in
    let f = few_left c.args.n1 c.args.n2 c.requires.1 in
    (omega (arith, c.requires.2, c.loop-q-test.true), omega (arith, c.requires.2, x.invariant.0))

pub loop-q-init : goal.loop-q-init
unfolding union
loop-q-init c = (omega arith, refl)

pub overflow_cast-q : goal.overflow_cast-q
overflow_cast-q c = omega (arith, (room c).0)

pub overflow_shr-a : goal.overflow_shr-a
overflow_shr-a c = omega (arith, (room c).0)

pub overflow_cast-out : goal.overflow_cast-out
overflow_cast-out c = omega (arith, (room (goal.at.overflow_cast-out c).In-loop-q).1)

pub overflow_shl-out : goal.overflow_shl-out
overflow_shl-out c = omega (arith, (room (goal.at.overflow_shl-out c).In-loop-q).1, c.requires.1)

pub overflow_add-at : goal.overflow_add-at
overflow_add-at c = omega (arith, (room (goal.at.overflow_add-at c).In-loop-q).1)

pub loop-q-preserved : goal.loop-q-preserved
loop-q-preserved c =
    let x = c.loop-q in
    let a = c.args in
    let f : ℕ → ℕ = λ p. a.b * 2 ^ (p * a.n2) in
    let shl = shl_exact a.n2 x.at 32 c.requires.0.second (omega (arith, (room (goal.at.loop-q-preserved c).In-loop-q).1)) in (
      ap (λ (y : ℕ). y + a.n2) x.invariant.0 ∙ next_at_lem x.q a.n2,
      (elim c.if-a-q-eq1.branch [
        | then-a-q-eq1 w ↦ w.out-is
            ∙ ap (λ (y : ℕ). bit_or x.out y) (shl ∙ ap (λ (y : ℕ). a.b * 2 ^ y) x.invariant.0)
            ∙ ap (λ (y : ℕ). bit_or y (f x.q)) x.invariant.1
            ∙ union_step f a.a x.q w.if-a-q-eq1.true
        | else-a-q-eq1 w ↦ w.out-is ∙ x.invariant.1 ∙ union_skip f a.a x.q w.if-a-q-eq1.false
      ]),
    )

pub returns : goal.returns
returns c =
    let x = c.loop-q in
    let a = c.args in
    let f : ℕ → ℕ = λ p. a.b * 2 ^ (p * a.n2) in
    let e : x.q ≡ a.n1 = omega arith in
    x.invariant.1
    ∙ ap (λ (y : ℕ). union f a.a y) e
    ∙ union_all f a.a a.n1 32 c.requires.0.first (omega (arith, few_left a.n1 a.n2 c.requires.1, c.requires.2))
