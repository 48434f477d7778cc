-- `image` meets its contract. The loop goes through the bits from state 0 up, as in the successor of a set. Assumes nothing.
use mathlib.Core.Path.{◌≡◌, refl, sym, ap, ◌∙◌}
use mathlib.Core.Logic.{⊎_elim}
use Prim.Native.Nat.{ℕ, ◌/◌, ◌^◌, ◌≤◌, ◌<◌}
use native.Mathlib.Nat.{div-one, div-eq_of_lt, eq-or-lt_of_le}
use native.Mathlib.Omega.{arith}
use lib.Bits.{bit_or}
use lib.ListN.{get_or}
use lib.Pow.{shr-shr}
use borrow.Author.Rules.{rules}
use Rattle.masks.specs.Masks.{union}
use Rattle.masks.proofs.Laws.{low_bits, union_step, union_skip, union_all}
use Rattle.mappings.proofs.image.Goals.{In-loop-rest, else-rest-eq1, then-rest-eq1}
use Rattle.mappings.proofs.image.Goals as goal

-- a bit is left: q is a state's number
still : (set q rest : ℕ) → set < 2 ^ 8 → q ≤ 8 → rest ≡ set / 2 ^ q → (rest ≡ 0 → ⊥) → q < 8
still set q rest f h e ne = ⊎_elim (λ z. absurd (ne (e ∙ ap (λ (x : ℕ). set / 2 ^ x) z ∙ div-eq_of_lt f))) (λ l. l) (eq-or-lt_of_le h)

state-left : (c : In-loop-rest) → c.loop-rest.q < 8
state-left c =
    let x = c.loop-rest in
    still c.args.set x.q x.rest c.ranges.set.fits x.invariant.0 x.invariant.1 c.loop-rest-test.true

pub loop-rest-init : goal.loop-rest-init
unfolding union
loop-rest-init c = (search rules, sym (div-one _), refl)

pub bounds-cells-q : goal.bounds-cells-q
bounds-cells-q c = omega (arith, state-left (goal.at.bounds-cells-q c).In-loop-rest)

pub loop-rest-smaller : goal.loop-rest-smaller
loop-rest-smaller c = omega (arith, state-left (goal.at.loop-rest-smaller c).In-loop-rest)

pub loop-rest-preserved : goal.loop-rest-preserved
loop-rest-preserved c =
    let x = c.loop-rest in
    let a = c.args in
    let f : ℕ → ℕ = λ p. get_or a.masks.now p 0 in (
      omega (arith, state-left (goal.at.loop-rest-preserved c).In-loop-rest),
      ap (λ (y : ℕ). y / 2) x.invariant.1 ∙ shr-shr a.set x.q 1,
      (elim c.if-rest-eq1.branch [
        | then-rest-eq1 w ↦ w.out-is ∙ ap (λ (y : ℕ). bit_or y (get_or a.masks.now x.q 0)) x.invariant.2 ∙ union_step f a.set x.q (rw x.invariant.1 at w.if-rest-eq1.true)
        | else-rest-eq1 w ↦ w.out-is ∙ x.invariant.2 ∙ union_skip f a.set x.q (rw x.invariant.1 at w.if-rest-eq1.false)
      ]),
    )

pub returns : goal.returns
returns c =
    let x = c.loop-rest in
    let a = c.args in
    x.invariant.2 ∙ union_all (λ p. get_or a.masks.now p 0) a.set x.q 8 (low_bits x.q a.set (sym x.invariant.1 ∙ c.loop-rest-test.false)) x.invariant.0
