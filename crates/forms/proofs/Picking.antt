-- The numbers that pass a test: how many they are, and the list of what is picked by them. Assumes
-- nothing.
--
--   below_suc              a number below n + 1 is n, or below n
--   many_step, many_skip   one number more that passes, or does not
--   count_on               a turn of a loop that counts them
--   many_le, many_mono, many_lt, many_same   bounds of how many pass, and equal tests
--   picked_length          as many are picked as pass
--   picked_at              what is picked by a number stands behind those before it
--   picked_before          and stays where it is as more are picked
--   picked_past            behind the last there are zeros
--   picked_each            what holds of each one that is picked
use mathlib.Core.Path.{◌≡◌, refl, sym, ap, ◌∙◌}
use mathlib.Core.Logic.{◌⊎◌, ⊎_elim}
use mathlib.Core.Bool.{Bool, true, false, cond}
use mathlib.Core.List.{[], ◌∷◌, ◌++◌, append-nil}
use Prim.Native.Nat.{ℕ, zero, suc, ◌+◌, ◌≤◌, ◌<◌}
use native.Mathlib.Numerals.{add-one}
use native.Mathlib.Omega.{arith}
use lib.Dec.{eqb}
use lib.ListN.{length, get_or, get_or-append, get_or-eq_default}
use lib.Seq.{get_or_at}
use borrow.Author.Tests.{eqb-true, eqb-false}
use Rattle.base.specs.Totals.{total}
use Rattle.base.proofs.Lists.{joined_suc, length_joined}
use Rattle.base.proofs.Tests.{by_test}
use Rattle.base.proofs.Totals.{total_same}
use Rattle.forms.specs.Form.{how_many, picked}

pub below_suc : {P : Type 0} (c n : ℕ) → c < suc n → (c ≡ n → P) → (c < n → P) → P
below_suc c n h f g = by_test (eqb c n) (λ t. f (eqb-true c n t)) (λ t. g (omega (arith, eqb-false c n t)))

-- ---- how many
module _ (p : ℕ → Bool) where
  pub many_step : (c : ℕ) → p c ≡ true → how_many p (suc c) ≡ suc (how_many p c)
  unfolding total
  many_step c e = rw e (omega arith)

  pub many_skip : (c : ℕ) → p c ≡ false → how_many p (suc c) ≡ how_many p c
  unfolding total
  many_skip c e = rw e (omega arith)

  pub many_le : (c : ℕ) → how_many p c ≤ c
  unfolding total
  many_le zero = omega arith
  many_le (suc c) =
      let h = many_le c in
      by_test (p c) (λ e. rw e (omega arith)) (λ e. rw e (omega arith))

  more : (c : ℕ) → how_many p c ≤ how_many p (suc c)
  unfolding total
  more c = omega arith

  pub many_mono : (a b : ℕ) → a ≤ b → how_many p a ≤ how_many p b
  many_mono a zero h = let e : a ≡ 0 = omega arith in rw e (omega arith)
  many_mono a (suc b) h =
      by_test (eqb a (suc b)) (λ t. rw (eqb-true a (suc b) t) (omega arith))
      (λ t. let i = many_mono a b (omega (arith, eqb-false a (suc b) t)) in omega (arith, more b))

  pub many_lt : (a b : ℕ) → a < b → p a ≡ true → how_many p a < how_many p b
  many_lt a b h e = omega (arith, many_step a e, many_mono (suc a) b h)

pub count_on : (p : ℕ → Bool) (c n m : ℕ) (r : Bool) → r ≡ p c → n ≤ c → n ≡ how_many p c
    → ((r ≡ true) × (m ≡ n + 1)) ⊎ ((r ≡ false) × (m ≡ n)) → (m ≤ c + 1) × (m ≡ how_many p (c + 1))
count_on p c n m r e b q o =
    ⊎_elim
    (λ x. let s = many_step p c (sym e ∙ x.0) in (omega (arith, x.1), rw (add-one c) (omega (arith, x.1))))
    (λ x. let s = many_skip p c (sym e ∙ x.0) in (omega (arith, x.1), rw (add-one c) (omega (arith, x.1))))
    o

pub many_same : (p q : ℕ → Bool) (n : ℕ) → ((c : ℕ) → c < n → p c ≡ q c) → how_many p n ≡ how_many q n
many_same p q n h = total_same (λ i. cond (p i) 1 0) (λ i. cond (q i) 1 0) n (λ i l. ap (λ (b : Bool). cond b 1 0) (h i l))

-- ---- what is picked
module _ (p : ℕ → Bool) (g : ℕ → ℕ) where
  pub picked_step : (n : ℕ) → p n ≡ true → picked p g (suc n) ≡ picked p g n ++ (g n ∷ [])
  picked_step n e = joined_suc (λ i. cond (p i) (g i ∷ []) []) n ∙ rw e

  pub picked_skip : (n : ℕ) → p n ≡ false → picked p g (suc n) ≡ picked p g n
  picked_skip n e = joined_suc (λ i. cond (p i) (g i ∷ []) []) n ∙ rw e (append-nil (picked p g n))

  pub picked_length : (n : ℕ) → length (picked p g n) ≡ how_many p n
  picked_length n =
      length_joined (λ i. cond (p i) (g i ∷ []) []) n
      ∙ total_same (λ i. length (cond (p i) (g i ∷ []) [])) (λ i. cond (p i) 1 0) n (λ i l. size (g i) (p i))
    where
      size : (x : ℕ) (b : Bool) → length (cond b (x ∷ []) []) ≡ cond b 1 0
      size x true = refl
      size x false = refl

  pub picked_past : (n i : ℕ) → how_many p n ≤ i → get_or (picked p g n) i 0 ≡ 0
  picked_past n i h = get_or-eq_default (picked p g n) 0 (omega (arith, picked_length n))

  -- one more
  pub picked_last : (n : ℕ) → p n ≡ true → get_or (picked p g (suc n)) (how_many p n) 0 ≡ g n
  picked_last n e = rw (picked_step n e) (get_or_at (picked p g n) (g n) [] 0 (how_many p n) (picked_length n))

  pub picked_before : (n i : ℕ) → i < how_many p n → get_or (picked p g (suc n)) i 0 ≡ get_or (picked p g n) i 0
  picked_before n i h =
      by_test (p n)
      (λ e. rw (picked_step n e) (get_or-append (picked p g n) (g n ∷ []) 0 i (omega (arith, picked_length n))))
      (λ e. rw (picked_skip n e))

  pub picked_at : (n c : ℕ) → c < n → p c ≡ true → get_or (picked p g n) (how_many p c) 0 ≡ g c
  picked_at zero c h e = absurd (omega arith)
  picked_at (suc n) c h e =
      below_suc c n h
      (λ q. rw q (picked_last n (ap p (sym q) ∙ e)))
      (λ b. picked_before n (how_many p c) (many_lt p c n b e) ∙ picked_at n c b e)

  pub picked_each : (Q : ℕ → Type 0) (n : ℕ) → ((c : ℕ) → c < n → p c ≡ true → Q (g c))
      → (i : ℕ) → i < how_many p n → Q (get_or (picked p g n) i 0)
  picked_each Q zero h i l = absurd (omega (arith, many_le p 0))
  picked_each Q (suc n) h i l =
      let before : i < how_many p n → Q (get_or (picked p g (suc n)) i 0)
      = λ m. rw (picked_before n i m) (picked_each Q n (λ c j. h c (omega arith)) i m) in
      by_test (p n)
      (λ t. below_suc i (how_many p n) (omega (arith, many_step p n t))
      (λ e. rw (e, picked_last n t) (h n (omega arith) t)) before)
      (λ t. before (omega (arith, many_skip p n t)))
