-- `successor` meets its contract. The loop goes through the bits from state 0 up: what is left of
-- the set is the set shifted by q, and `out` is the union over the members below q. It ends where
-- no bit is left, which is so at 32 at the latest. Assumes nothing.
use mathlib.Core.Path.{◌≡◌, refl, sym, ap, ◌∙◌}
use mathlib.Core.Logic.{⊎_elim}
use mathlib.Core.List.{List}
use Prim.Native.Nat.{ℕ, ◌+◌, ◌*◌, ◌/◌, ◌^◌, ◌≤◌, ◌<◌}
use native.Mathlib.Nat.{div-one, div-eq_of_lt, eq-or-lt_of_le}
use native.Mathlib.Omega.{arith}
use lib.Bits.{bit_or}
use lib.ListN.{get_or}
use lib.Pow.{shr-shr}
use borrow.Author.Rules.{rules}
use borrow.Author.Tests.{lt-ltb}
use Rattle.masks.specs.Masks.{union}
use Rattle.masks.proofs.Laws.{low_bits, union_step, union_skip, union_all}
use Rattle.automaton.specs.Rules.{target_mask}
use Rattle.automaton.proofs.Laws.{successor_foreign}
use Rattle.automaton.proofs.successor.Goals.{In-loop-rest, else-rest-eq1, then-rest-eq1}
use Rattle.automaton.proofs.successor.Goals as goal

-- a bit is left: q is a state's number
still : (set q rest : ℕ) → set < 2 ^ 32 → q ≤ 32 → rest ≡ set / 2 ^ q → (rest ≡ 0 → ⊥) → q < 32
still set q rest f h e ne =
    ⊎_elim (λ z. absurd (ne (e ∙ ap (λ (x : ℕ). set / 2 ^ x) z ∙ div-eq_of_lt f))) (λ l. l) (eq-or-lt_of_le h)

-- a cell of the table is the target mask
cell : (ts : List ℕ) (q s : ℕ) → s < 16 → get_or ts (q * 16 + s) 0 ≡ target_mask ts q s
cell ts q s h = rw (lt-ltb s 16 h)

state-left : (c : In-loop-rest) → c.loop-rest.q < 32
state-left c =
    let x = c.loop-rest in
    still c.args.set x.q x.rest c.ranges.set.fits x.invariant.1 x.invariant.2 c.loop-rest-test.true

pub returns-then-symbol-ge-MOST_SYMBOLS : goal.returns-then-symbol-ge-MOST_SYMBOLS
returns-then-symbol-ge-MOST_SYMBOLS c = let a = c.args in sym (successor_foreign a.targets.now a.set a.symbol c.if-symbol-ge-MOST_SYMBOLS.true)

pub loop-rest-init : goal.loop-rest-init
unfolding union
loop-rest-init c = (c.if-symbol-ge-MOST_SYMBOLS.false, search rules, sym (div-one _), refl)

pub overflow_mul-out : goal.overflow_mul-out
overflow_mul-out c = omega (arith, state-left c.before)

pub overflow_add-out : goal.overflow_add-out
overflow_add-out c = omega (arith, state-left c.before)

pub offset_bounds-targets-q : goal.offset_bounds-targets-q
offset_bounds-targets-q c = omega (arith, state-left c.before)

pub bounds-targets-q : goal.bounds-targets-q
bounds-targets-q c = omega (arith, state-left c.before.before.before)

pub loop-rest-smaller : goal.loop-rest-smaller
loop-rest-smaller c = omega (arith, state-left c.before)

pub loop-rest-preserved : goal.loop-rest-preserved
loop-rest-preserved c =
    let x = c.loop-rest in
    let a = c.args in
    let f : ℕ → ℕ = λ p. target_mask a.targets.now p a.symbol in (
      x.invariant.0,
      omega (arith, state-left c.before),
      ap (λ (y : ℕ). y / 2) x.invariant.2 ∙ shr-shr a.set x.q 1,
      (elim c.if-rest-eq1.branch [
        | then-rest-eq1 w ↦ w.out-is
            ∙ ap (λ (y : ℕ). bit_or y (get_or a.targets.now (x.q * 16 + a.symbol) 0)) x.invariant.3
            ∙ ap (bit_or (union f a.set x.q)) (cell a.targets.now x.q a.symbol x.invariant.0)
            ∙ union_step f a.set x.q (rw x.invariant.2 at w.if-rest-eq1.true)
        | else-rest-eq1 w ↦ w.out-is ∙ x.invariant.3 ∙ union_skip f a.set x.q (rw x.invariant.2 at w.if-rest-eq1.false)
      ]),
    )

pub returns : goal.returns
returns c =
    let x = c.loop-rest in
    let a = c.args in
    x.invariant.3
    ∙ union_all (λ p. target_mask a.targets.now p a.symbol) a.set x.q 32
    (low_bits x.q a.set (sym x.invariant.2 ∙ c.loop-rest-test.false))
    x.invariant.1
