-- `beyond` meets its contract: a shift by n leaves no bit of a mask below 2 ^ n, and only of such a
-- one; every 32-bit mask is below 2 ^ n where n is 32 or more. Assumes nothing.
use mathlib.Core.Bool.{not}
use mathlib.Core.Path.{◌≡◌, ap, sym, ◌∙◌}
use Prim.Native.Nat.{ℕ, ◌/◌, ◌^◌, ◌≤◌}
use native.Mathlib.Nat.{div-eq_of_lt, le-div_iff_mul-le, one-mul}
use native.Mathlib.Omega.{arith}
use lib.Dec.{eqb, leb}
use lib.Pow.{pow_pos, pow_mono}
use borrow.Author.Tests.{eq-eqb, ne_eqb, leb-true, leb-false, lt-leb}
use Rattle.base.proofs.Tests.{by_test}
use Rattle.rulecheck.proofs.beyond.Goals as goal

shifted : (m n : ℕ) → not (eqb (m / 2 ^ n) 0) ≡ leb (2 ^ n) m
shifted m n =
    by_test (leb (2 ^ n) m)
    (λ e.
    let p : 1 ≤ m / 2 ^ n = (le-div_iff_mul-le (pow_pos n)).1 (rw one-mul (leb-true (2 ^ n) m e)) in
    ap not (ne_eqb (m / 2 ^ n) 0 (λ z. absurd (omega arith))) ∙ sym e)
    (λ e. ap not (eq-eqb (m / 2 ^ n) 0 (div-eq_of_lt (leb-false (2 ^ n) m e))) ∙ sym e)

pub returns-then-n-ge-STATES : goal.returns-then-n-ge-STATES
returns-then-n-ge-STATES c =
    let a = c.args in
    let wide : 2 ^ 32 ≤ 2 ^ a.n = pow_mono c.if-n-ge-STATES.true in
    sym (lt-leb (2 ^ a.n) a.set (omega arith))

pub returns : goal.returns
returns c = shifted c.args.set c.args.n
