-- The laws of `total`, the sum over the numbers below a bound, and of `greatest`. Assumes nothing.
--
--   total_more, total_first   one number more, and the first apart
--   total_same                the same sum of the same numbers
--   total_most, term_most     a bound of the sum; a term is at most the sum
--   total_but_one             a bound where one term is 0: room for one more is left
--   squeeze                   numbers one by one no greater, whose sums are equal, are equal
--   total_rest                numbers that add nothing
--   greatest_more, greatest_same, greatest_most, term_greatest, greatest_split, greatest_rest   the
--                             same of the greatest; the numbers from n on apart
--   greatest_sum              the greatest of sums, where a number is added only to a full one
use mathlib.Core.Path.{◌≡◌, refl, sym, ap, ap₂, ◌∙◌}
use mathlib.Core.Logic.{⊎_elim}
use Prim.Native.Nat.{ℕ, zero, suc, ◌+◌, ◌*◌, ◌≤◌, ◌<◌, max}
use native.Mathlib.Nat.{suc-mul, eq-or-lt_of_le, le_of_suc-le-suc}
use native.Mathlib.Numerals.{add-one}
use native.Mathlib.Omega.{arith}
use lib.Dec.{ltb}
use borrow.Author.Tests.{ltb-true, ltb-false}
use Rattle.base.specs.Totals.{total, greatest}
use Rattle.base.proofs.Tests.{by_test}

-- ---- sums

pub total_more : (f : ℕ → ℕ) (q : ℕ) → total f (q + 1) ≡ total f q + f q
unfolding total
total_more f q = rw add-one

pub total_first : (f : ℕ → ℕ) (n : ℕ) → total f (suc n) ≡ f 0 + total (λ p. f (suc p)) n
unfolding total
total_first f zero = omega arith
total_first f (suc n) = omega (arith, total_first f n)

pub total_same : (f g : ℕ → ℕ) (n : ℕ) → ((q : ℕ) → q < n → f q ≡ g q) → total f n ≡ total g n
unfolding total
total_same f g zero same = refl
total_same f g (suc n) same = rw (total_same f g n (λ q h. same q (omega arith)), same n (omega arith))

pub total_most : (f : ℕ → ℕ) (most n : ℕ) → ((q : ℕ) → q < n → f q ≤ most) → total f n ≤ n * most
unfolding total
total_most f most zero h = omega arith
total_most f most (suc n) h = rw suc-mul (omega (arith, total_most f most n (λ q l. h q (omega arith)), h n (omega arith)))

pub total_but_one : (f : ℕ → ℕ) (most n p : ℕ) → p < n → f p ≡ 0 → ((q : ℕ) → q < n → f q ≤ most)
    → total f n + most ≤ n * most
unfolding total
total_but_one f most zero p l none_there h = absurd (omega arith)
total_but_one f most (suc n) p l none_there h =
    rw suc-mul
    (⊎_elim
    (λ e. omega (arith, total_most f most n (λ q b. h q (omega arith)), ap f e))
    (λ b. omega (arith, total_but_one f most n p b none_there (λ q c. h q (omega arith)), h n (omega arith)))
    (eq-or-lt_of_le (le_of_suc-le-suc l)))

pub term_most : (f : ℕ → ℕ) (n p : ℕ) → p < n → f p ≤ total f n
unfolding total
term_most f zero p h = absurd (omega arith)
term_most f (suc n) p h =
    ⊎_elim (λ e. rw e (omega arith)) (λ l. omega (arith, term_most f n p l)) (eq-or-lt_of_le (le_of_suc-le-suc h))

module _ (f g : ℕ → ℕ) where
  total_le : (n : ℕ) → ((q : ℕ) → q < n → f q ≤ g q) → total f n ≤ total g n
  unfolding total
  total_le zero h = omega arith
  total_le (suc n) h = omega (arith, total_le n (λ q l. h q (omega arith)), h n (omega arith))

  pub squeeze : (n : ℕ) → ((q : ℕ) → q < n → f q ≤ g q) → total g n ≤ total f n → (q : ℕ) → q < n → f q ≡ g q
  unfolding total
  squeeze zero h e q l = absurd (let x = l in omega arith)
  squeeze (suc n) h e q l =
      let below : (p : ℕ) → p < n → f p ≤ g p = λ p b. h p (omega arith) in
      let le = total_le n below in
      let last = h n (omega arith) in
      ⊎_elim
      (λ z. let same : f n ≡ g n = omega (arith, le, last, e) in ap f z ∙ same ∙ ap g (sym z))
      (λ b. squeeze n below (omega (arith, le, last, e)) q b)
      (eq-or-lt_of_le (le_of_suc-le-suc l))

-- from n on they add nothing
pub total_rest : (f : ℕ → ℕ) (k n : ℕ) → ((q : ℕ) → n ≤ q → f q ≡ 0) → total f (k + n) ≡ total f n
unfolding total
total_rest f zero n h = let e : 0 + n ≡ n = omega arith in ap (total f) e
total_rest f (suc k) n h =
    let e : suc k + n ≡ suc (k + n) = omega arith in
    rw e (omega (arith, total_rest f k n h, h (k + n) (omega arith)))

-- ---- the greatest
pub greatest_more : (f : ℕ → ℕ) (q : ℕ) → greatest f (q + 1) ≡ max (greatest f q) (f q)
unfolding greatest
greatest_more f q = rw add-one

pub greatest_same : (f g : ℕ → ℕ) (n : ℕ) → ((q : ℕ) → q < n → f q ≡ g q) → greatest f n ≡ greatest g n
unfolding greatest
greatest_same f g zero h = refl
greatest_same f g (suc n) h = ap₂ max (greatest_same f g n (λ q l. h q (omega arith))) (h n (omega arith))

pub greatest_most : (f : ℕ → ℕ) (most n : ℕ) → ((q : ℕ) → q < n → f q ≤ most) → greatest f n ≤ most
unfolding greatest
greatest_most f most zero h = omega arith
greatest_most f most (suc n) h = omega (arith, greatest_most f most n (λ q l. h q (omega arith)), h n (omega arith))

pub term_greatest : (f : ℕ → ℕ) (n p : ℕ) → p < n → f p ≤ greatest f n
unfolding greatest
term_greatest f zero p h = absurd (omega arith)
term_greatest f (suc n) p h =
    ⊎_elim (λ e. rw e (omega arith)) (λ l. omega (arith, term_greatest f n p l)) (eq-or-lt_of_le (le_of_suc-le-suc h))

pub greatest_split : (f : ℕ → ℕ) (n k : ℕ) → greatest f (n + k) ≡ max (greatest f n) (greatest (λ q. f (n + q)) k)
unfolding greatest
greatest_split f n zero = let e : n + 0 ≡ n = omega arith in rw e (omega arith)
greatest_split f n (suc k) = let e : n + suc k ≡ suc (n + k) = omega arith in rw e (omega (arith, greatest_split f n k))

-- from n on they are 0
pub greatest_rest : (f : ℕ → ℕ) (k n : ℕ) → ((q : ℕ) → n ≤ q → q < k + n → f q ≡ 0) → greatest f (k + n) ≡ greatest f n
unfolding greatest
greatest_rest f zero n h = let e : 0 + n ≡ n = omega arith in ap (greatest f) e
greatest_rest f (suc k) n h =
    let e : suc k + n ≡ suc (k + n) = omega arith in
    rw e (omega (arith, greatest_rest f k n (λ q a b. h q a (omega arith)), h (k + n) (omega arith) (omega arith)))

-- each f q is at most `full`, and what g adds to it is 0 where it is less
module _ (f g : ℕ → ℕ) (full : ℕ) (most : (q : ℕ) → f q ≤ full) (only : (q : ℕ) → 0 < g q → f q ≡ full) where
  only_greatest : (n : ℕ) → 0 < greatest g n → greatest f n ≡ full
  unfolding greatest
  only_greatest zero h = absurd (omega arith)
  only_greatest (suc n) h =
      let top = greatest_most f full n (λ q l. most q) in
      by_test (ltb 0 (g n))
      (λ t. omega (arith, only n (ltb-true 0 (g n) t)))
      (λ t. let none = ltb-false 0 (g n) t in omega (arith, only_greatest n (omega arith), most n))

  pub greatest_sum : (n : ℕ) → greatest (λ q. f q + g q) n ≡ greatest f n + greatest g n
  unfolding greatest
  greatest_sum zero = refl
  greatest_sum (suc n) =
      let top = greatest_most f full n (λ q l. most q) in
      let sum = greatest_sum n in
      by_test (ltb 0 (g n))
      (λ t.
      let here = only n (ltb-true 0 (g n) t) in
      by_test (ltb 0 (greatest g n))
      (λ u. let all = only_greatest n (ltb-true 0 (greatest g n) u) in omega arith)
      (λ u. let none = ltb-false 0 (greatest g n) u in omega arith))
      (λ t.
      let none = ltb-false 0 (g n) t in
      by_test (ltb 0 (greatest g n))
      (λ u. let all = only_greatest n (ltb-true 0 (greatest g n) u) in omega (arith, most n))
      (λ u. let less = ltb-false 0 (greatest g n) u in omega arith))
