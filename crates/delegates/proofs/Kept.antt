-- How many of the numbers below a bound a function keeps (`kept`), and when that grows. Assumes
-- nothing.
use mathlib.Core.Path.{◌≡◌}
use mathlib.Core.Logic.{⊎_elim}
use mathlib.Core.Bool.{cond}
use Prim.Native.Nat.{ℕ, zero, suc, ◌+◌, ◌≤◌, ◌<◌, zero-le}
use native.Mathlib.Nat.{le_of_suc-le-suc, eq-or-lt_of_le}
use native.Mathlib.Omega.{arith}
use borrow.Author.Tests.{eq-eqb, ne_eqb, eqb-true}
use lib.Dec.{eqb}
use Rattle.base.proofs.Tests.{by_test}

-- how many of the numbers below n the function keeps
unfoldable pub kept : (ℕ → ℕ) → ℕ → ℕ
kept c zero = 0
kept c (suc n) = kept c n + cond (eqb (c n) n) 1 0

cell_le : (x y n : ℕ) → (x ≡ n → y ≡ n) → cond (eqb x n) 1 0 ≤ cond (eqb y n) 1 0
cell_le x y n h = by_test (eqb x n) (λ t. rw (t, eq-eqb y n (h (eqb-true x n t))) (omega arith)) (λ t. rw t zero-le)

pub kept_most : (c : ℕ → ℕ) (n : ℕ) → kept c n ≤ n
unfolding kept
kept_most c zero = omega arith
kept_most c (suc n) = by_test (eqb (c n) n) (λ t. rw t (omega (arith, kept_most c n))) (λ t. rw t (omega (arith, kept_most c n)))

kept-le : (c d : ℕ → ℕ) (n : ℕ) → ((b : ℕ) → b < n → c b ≡ b → d b ≡ b) → kept c n ≤ kept d n
unfolding kept
kept-le c d zero up = omega arith
kept-le c d (suc n) up =
    let ih = kept-le c d n (λ b l. up b (omega arith)) in
    omega (arith, cell_le (c n) (d n) n (up n (omega arith)))

-- there are more where each stays and one comes
pub kept_less : (c d : ℕ → ℕ) (n : ℕ) → ((b : ℕ) → b < n → c b ≡ b → d b ≡ b) → (u : ℕ) → u < n → (c u ≡ u → ⊥) → d u ≡ u → kept c n < kept d n
unfolding kept
kept_less c d zero up u h ne e = absurd (omega arith)
kept_less c d (suc n) up u h ne e =
    ⊎_elim
    (λ z.
    let last : c n ≡ n → ⊥ = rw z at ne in
    let now : d n ≡ n = rw z at e in
    rw (ne_eqb (c n) n last, eq-eqb (d n) n now) (omega (arith, kept-le c d n (λ b l. up b (omega arith)))))
    (λ l.
    let ih = kept_less c d n (λ b l. up b (omega arith)) u l ne e in
    omega (arith, cell_le (c n) (d n) n (up n (omega arith))))
    (eq-or-lt_of_le (le_of_suc-le-suc h))
