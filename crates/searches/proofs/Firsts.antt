-- The first place of a list whose member meets a test. Assumes nothing.
use mathlib.Core.Path.{◌≡◌, refl}
use mathlib.Core.Bool.{Bool, true, false, cond}
use mathlib.Core.List.{List, [], ◌∷◌}
use Prim.Native.Nat.{ℕ, zero, suc, ◌≤◌, ◌<◌}
use native.Mathlib.Omega.{arith}
use lib.Dec.{ltb}
use lib.ListN.{length, get_or}
use borrow.Author.Tests.{ltb-true, ltb-false}
use Rattle.base.proofs.Tests.{by_test, not_both}
use Rattle.searches.specs.Search.{first_where}

module _ (t : ℕ → Bool) where
  pub where_meets : (l : List ℕ) → first_where t l < length l → t (get_or l (first_where t l) 0) ≡ true
  unfolding first_where
  where_meets [] h = absurd (omega arith)
  where_meets (x ∷ l) h = go (t x) refl h (where_meets l)
    where
      go : (b : Bool) → t x ≡ b → cond b 0 (suc (first_where t l)) < suc (length l) → (first_where t l < length l → t (get_or l (first_where t l) 0) ≡ true)
          → t (get_or (x ∷ l) (cond b 0 (suc (first_where t l))) 0) ≡ true
      go true e a ih = e
      go false e a ih = ih (omega arith)

  pub where_before : (l : List ℕ) (i : ℕ) → i < first_where t l → t (get_or l i 0) ≡ false
  unfolding first_where
  where_before [] i h = absurd (omega arith)
  where_before (x ∷ l) zero h = go (t x) refl h
    where
      go : (b : Bool) → t x ≡ b → 0 < cond b 0 (suc (first_where t l)) → t x ≡ false
      go true e a = absurd (omega arith)
      go false e a = e
  where_before (x ∷ l) (suc i) h = go (t x) h (where_before l i)
    where
      go : (b : Bool) → suc i < cond b 0 (suc (first_where t l)) → (i < first_where t l → t (get_or l i 0) ≡ false) → t (get_or l i 0) ≡ false
      go true a ih = absurd (omega arith)
      go false a ih = ih (omega arith)

  where_le : (l : List ℕ) → first_where t l ≤ length l
  unfolding first_where
  where_le [] = omega arith
  where_le (x ∷ l) = go (t x) (where_le l)
    where
      go : (b : Bool) → first_where t l ≤ length l → cond b 0 (suc (first_where t l)) ≤ suc (length l)
      go true h = omega arith
      go false h = omega arith

  pub where_is : (l : List ℕ) (i : ℕ) → i ≤ length l → (i < length l → t (get_or l i 0) ≡ true) → ((j : ℕ) → j < i → t (get_or l j 0) ≡ false)
      → i ≡ first_where t l
  where_is l i most e h =
      by_test (ltb (first_where t l) i)
      (λ x. let b = ltb-true (first_where t l) i x in not_both (where_meets l (omega arith)) (h (first_where t l) b))
      (λ x.
      let b = ltb-false (first_where t l) i x in
      by_test (ltb i (first_where t l))
      (λ y. let d = ltb-true i (first_where t l) y in not_both (e (omega (arith, where_le l))) (where_before l i d))
      (λ y. omega (arith, ltb-false i (first_where t l) y)))
