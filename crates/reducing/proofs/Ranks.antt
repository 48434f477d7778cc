-- New numbers: they rise with the states that stay, and every number below their count is one.
-- Assumes nothing.
--
--   rank-more, rank_mono, rank_less, rank_once, rank_onto
--   gather-law     the members of a union of sets
--   renamed_law    the members of a renamed set
use mathlib.Core.Path.{◌≡◌, subst}
use mathlib.Core.Logic.{◌↔◌, ⊎_elim}
use Prim.Native.Nat.{ℕ, zero, suc, ◌≤◌, ◌<◌}
use native.Mathlib.Nat.{eq-or-lt_of_le, le_of_suc-le-suc}
use native.Mathlib.Omega.{arith}
use lib.Bits.{bit_and}
use lib.Dec.{ltb}
use borrow.Author.Tests.{ltb-true, ltb-false}
use Rattle.base.specs.Totals.{total}
use Rattle.base.proofs.Tests.{by_test}
use Rattle.masks.specs.Masks.{bit, ◌∈◌, single}
use Rattle.masks.specs.Turns.{rank}
use Rattle.masks.proofs.Turns.{bit_lt}
use Rattle.masks.proofs.Laws.{no_member, or_cases, or_left, or_right, and_members, single_law, part_of, in_union}
use Rattle.reducing.specs.Reduced.{gather, renamed}

module _ (kept : ℕ) where
  pub rank_mono : (x y : ℕ) → x ≤ y → rank kept x ≤ rank kept y
  unfolding total
  rank_mono x zero h = let e : x ≡ 0 = omega arith in rw e (omega arith)
  rank_mono x (suc y) h =
      ⊎_elim (λ e. rw e (omega arith)) (λ l. omega (arith, rank_mono x y (le_of_suc-le-suc l))) (eq-or-lt_of_le h)

  rank_step : (x : ℕ) → x ∈ kept → rank kept (suc x) ≡ suc (rank kept x)
  unfolding total
  rank_step x e = omega (arith, e)

  -- it rises
  pub rank_less : (x y : ℕ) → x ∈ kept → x < y → rank kept x < rank kept y
  rank_less x y e h = let s = rank_step x e in let m = rank_mono (suc x) y h in omega arith

  pub rank_once : (x y : ℕ) → x ∈ kept → y ∈ kept → rank kept x ≡ rank kept y → x ≡ y
  rank_once x y i j e =
      by_test (ltb x y)
      (λ t. absurd (omega (arith, rank_less x y i (ltb-true x y t))))
      (λ t.
      by_test (ltb y x)
      (λ u. absurd (omega (arith, rank_less y x j (ltb-true y x u))))
      (λ u. let a = ltb-false x y t in let b = ltb-false y x u in omega arith))

  pub rank_onto : (n p : ℕ) → p < rank kept n → (x : ℕ) × (x < n) × (x ∈ kept) × (rank kept x ≡ p)
  unfolding total
  rank_onto zero p h = absurd (omega arith)
  rank_onto (suc n) p h =
      by_test (ltb p (rank kept n))
      (λ t. let u = rank_onto n p (ltb-true p (rank kept n) t) in (u.0, omega (arith, u.1), u.2, u.3))
      (λ t.
      let l = ltb-false p (rank kept n) t in
      let b = bit_lt kept n in
      let e : bit kept n ≡ 1 = omega arith in
      let z : rank kept n ≡ p = omega arith in
      (n, omega arith, e, z))

  -- the members of a renamed set
  pub renamed_law : (m p : ℕ) → ((x : ℕ) → x ∈ kept → x < 32)
      → p ∈ renamed kept m ↔ (x : ℕ) × (x ∈ kept) × (x ∈ m) × (p ≡ rank kept x)
  renamed_law m p few = (
    (λ e.
        let u = part_of (λ q. single (rank kept q)) (bit_and kept m) p 32 e in
        let b = (and_members kept m u.from).0 u.member in
        (u.from, b.0, b.1, (single_law (rank kept u.from) p).0 u.there)),
    λ u.
        in_union (λ q. single (rank kept q)) (bit_and kept m) p 32 u.0 (few u.0 u.1)
        ((and_members kept m u.0).1 (u.1, u.2))
        ((single_law (rank kept u.0) p).1 u.3),
  )

module _ (f : ℕ → ℕ) (p : ℕ) where
  pub gathered : (n : ℕ) → p ∈ gather f n → (s : ℕ) × (s < n) × (p ∈ f s)
  unfolding gather
  gathered zero e = absurd (no_member p e)
  gathered (suc n) e =
      ⊎_elim
      (λ h. let u = gathered n h in (u.0, omega (arith, u.1), u.2))
      (λ h. (n, omega arith, h))
      (or_cases (gather f n) (f n) p e)

  pub in_gather : (n s : ℕ) → s < n → p ∈ f s → p ∈ gather f n
  unfolding gather
  in_gather zero s h e = absurd (omega arith)
  in_gather (suc n) s h e =
      ⊎_elim
      (λ z. or_right (gather f n) (f n) p (subst (λ (x : ℕ). p ∈ f x) z e))
      (λ l. or_left (gather f n) (f n) p (in_gather n s l e))
      (eq-or-lt_of_le (le_of_suc-le-suc h))
