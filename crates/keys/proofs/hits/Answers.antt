-- `hits` meets its contract: the cells before j are looked at. Assumes nothing.
use mathlib.Core.Path.{◌≡◌, refl, sym, ◌∙◌}
use mathlib.Core.Bool.{Bool, false, or-false}
use Prim.Native.Nat.{ℕ, ◌+◌, ◌%◌, ◌^◌}
use native.Mathlib.Numerals.{add-one}
use native.Mathlib.Omega.{arith}
use lib.Dec.{eqb}
use lib.ListN.{get_or}
use borrow.Author.Tests.{eq-eqb, ne_eqb}
use Rattle.base.specs.Conditions.{any_below}
use Rattle.base.proofs.Conditions.{any_at}
use Rattle.keys.proofs.hits.Goals.{else-lower-half, then-lower-half}
use Rattle.keys.proofs.hits.Goals as goal

-- the loop's step, over plain values
more : (p : ℕ → Bool) (j : ℕ) → p j ≡ false → any_below p j ≡ any_below p (j + 1)
unfolding any_below
more p j h = rw (add-one, h, or-false)

pub loop-j-init : goal.loop-j-init
unfolding any_below
loop-j-init c = (omega arith, refl)

pub loop-j-preserved : goal.loop-j-preserved
loop-j-preserved c =
    let x = c.loop-j in
    let a = c.args in
    let low = c.lower.ensures in
    let p : ℕ → Bool = λ i. eqb (get_or a.keys.now (a.from + i) 0 % 2 ^ 32) a.half in
    let cell : ℕ = get_or a.keys.now (a.from + x.j) 0 % 2 ^ 32 in (
      omega arith,
      (elim c.if-lower-half.branch [
        | then-lower-half w ↦ w.found-is ∙ sym (any_at p (x.j + 1) x.j (omega arith) (eq-eqb cell a.half (sym low ∙ w.if-lower-half.true)))
        | else-lower-half w ↦ w.found-is ∙ x.invariant.1 ∙ more p x.j (ne_eqb cell a.half (λ e. w.if-lower-half.false (low ∙ e)))
      ]),
    )

pub returns : goal.returns
returns c =
    let x = c.loop-j in
    let e : x.j ≡ 32 = omega arith in
    rw (← e) x.invariant.1
