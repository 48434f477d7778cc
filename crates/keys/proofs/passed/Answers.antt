-- `passed` meets its contract. The loop's invariant: the key stands at none of the places passed. A
-- block with no hit has it nowhere, since a key has its own lower half. Assumes nothing.
use mathlib.Core.Path.{◌≡◌, sym, ◌∙◌}
use mathlib.Core.Bool.{false}
use mathlib.Core.List.{List}
use Prim.Native.Nat.{ℕ, ◌+◌, ◌-◌, ◌%◌, ◌^◌, ◌≤◌, ◌<◌}
use native.Mathlib.Omega.{arith}
use lib.Dec.{eqb, ltb}
use lib.ListN.{get_or}
use borrow.Author.Rules.{rules}
use borrow.Author.Tests.{eqb-false, ltb-true, ltb-false}
use Rattle.base.specs.Conditions.{any_below}
use Rattle.base.proofs.Conditions.{none_at}
use Rattle.base.proofs.Tests.{by_test}
use Rattle.keys.proofs.passed.Goals as goal

-- no cell of the block is the key
no_hit : (l : List ℕ) (from key half j : ℕ) → half ≡ key % 2 ^ 32 → any_below (λ i. eqb (get_or l (from + i) 0 % 2 ^ 32) half) 32 ≡ false → from ≤ j → j < from + 32
    → get_or l j 0 ≡ key
    → ⊥
no_hit l from key half j low none a b is =
    let at : from + (j - from) ≡ j = omega arith in
    eqb-false (get_or l (from + (j - from)) 0 % 2 ^ 32) half (none_at (λ i. eqb (get_or l (from + i) 0 % 2 ^ 32) half) 32 (j - from) none (omega arith))
    (rw (at, is, low))

pub loop-i-init : goal.loop-i-init
loop-i-init c = (omega arith, λ j b e. omega arith)

pub hits-requires : goal.hits-requires
hits-requires c = search (rules, arith)

pub returns-then-hits : goal.returns-then-hits
returns-then-hits c = c.loop-i.invariant

pub loop-i-preserved : goal.loop-i-preserved
loop-i-preserved c =
    let x = c.loop-i in
    let a = c.args in
    let none = sym c.hits.ensures ∙ c.if-hits.false in (
      omega arith,
      λ j b e.
          by_test (ltb j x.i)
          (λ t. x.invariant.1 j (ltb-true j x.i t) e)
          (λ f. no_hit a.keys.now x.i a.key c.lower-half.result j c.lower-half.ensures none (ltb-false j x.i f) b e),
    )

pub returns : goal.returns
returns c = c.loop-i.invariant
