-- A step that only adds numbers below n, taken n times, comes to a set to which it adds nothing: each
-- turn before that adds one. Assumes nothing.
--
--   bit_lt, rank_most      a bit is 0 or 1; no more members below n than n
--   turns_still            where a turn changes nothing, none after it does
--   turns_more             one turn more
--   turns_whole            where a turn changes nothing, n of them
--   grows_by, in_turns     what is there stays
--   still                  after n turns nothing is new
--   settled                a turn that leaves no more members changes nothing, nor does any later one
use mathlib.Core.Path.{◌≡◌, sym, ap, ◌∙◌, subst}
use mathlib.Core.Logic.{◌⊎◌, inl, inr, ⊎_elim}
use Prim.Native.Nat.{ℕ, zero, suc, ◌+◌, ◌-◌, ◌/◌, ◌^◌, ◌≤◌, ◌<◌}
use native.Mathlib.Nat.{mod-lt}
use native.Mathlib.Numerals.{add-one}
use native.Mathlib.Omega.{arith}
use lib.Dec.{ltb, lit<}
use borrow.Author.Tests.{ltb-true, ltb-false}
use Rattle.base.proofs.Tests.{by_test}
use Rattle.base.proofs.Totals.{total_most, squeeze}
use Rattle.masks.specs.Masks.{bit, ◌∈◌}
use Rattle.masks.specs.Turns.{rank, turns}
use Rattle.masks.proofs.Laws.{ext}

pub bit_lt : (m q : ℕ) → bit m q < 2
bit_lt m q = mod-lt (m / 2 ^ q) (lit< tt)

bit_le : (x y : ℕ) → x < 2 → (x ≡ 1 → y ≡ 1) → x ≤ y
bit_le zero y h f = omega arith
bit_le (suc x) y h f = let e : suc x ≡ 1 = omega arith in omega (arith, f e)

pub rank_most : (m n : ℕ) → rank m n ≤ n
rank_most m n = omega (arith, total_most (bit m) 1 n (λ q l. omega (arith, bit_lt m q)))

module _ (step : ℕ → ℕ) (m : ℕ) where
  pub turns_still : (i j : ℕ) → step (turns step m i) ≡ turns step m i → turns step m (j + i) ≡ turns step m i
  unfolding turns
  turns_still i zero e = let z : 0 + i ≡ i = omega arith in ap (turns step m) z
  turns_still i (suc j) e =
      let z : suc j + i ≡ suc (j + i) = omega arith in
      ap (turns step m) z ∙ ap step (turns_still i j e) ∙ e

  pub turns_more : (i set : ℕ) → set ≡ turns step m i → step set ≡ turns step m (i + 1)
  unfolding turns
  turns_more i set is = rw add-one (ap step is)

  pub turns_whole : (n i set : ℕ) → set ≡ turns step m i → i ≤ n → step set ≡ set → set ≡ turns step m n
  turns_whole n i set is h e =
      let z : n - i + i ≡ n = omega arith in
      is ∙ sym (turns_still i (n - i) (ap step (sym is) ∙ e ∙ is)) ∙ ap (turns step m) z

  module _ (adds : (x q : ℕ) → q ∈ x → q ∈ step x) where
    grows : (i q : ℕ) → q ∈ turns step m i → q ∈ turns step m (suc i)
    unfolding turns
    grows i q e = adds (turns step m i) q e

    pub grows_by : (j i q : ℕ) → q ∈ turns step m i → q ∈ turns step m (j + i)
    grows_by zero i q e = let z : i ≡ 0 + i = omega arith in subst (λ (x : ℕ). q ∈ turns step m x) z e
    grows_by (suc j) i q e =
        let z : suc (j + i) ≡ suc j + i = omega arith in
        subst (λ (x : ℕ). q ∈ turns step m x) z (grows (j + i) q (grows_by j i q e))

    pub in_turns : (q : ℕ) → q ∈ m → (i : ℕ) → q ∈ turns step m i
    unfolding turns
    in_turns q e zero = e
    in_turns q e (suc i) = grows i q (in_turns q e i)

    module _ (n : ℕ) (few : (i q : ℕ) → q ∈ turns step m i → q < n) where
      -- a set with no fewer members than one that it is part of is that set
      same : (i : ℕ) → rank (turns step m (suc i)) n ≤ rank (turns step m i) n → turns step m (suc i) ≡ turns step m i
      same i h =
          let a = turns step m i in
          let b = turns step m (suc i) in
          ext b a λ q. (
            (λ e.
                squeeze (bit a) (bit b) n (λ p l. bit_le (bit a p) (bit b p) (bit_lt a p) (grows i p)) h q (few (suc i) q e) ∙ e),
            grows i q,
          )

      again : (i : ℕ) → turns step m (suc i) ≡ turns step m i → turns step m (suc (suc i)) ≡ turns step m (suc i)
      unfolding turns
      again i e = ap step e

      rising : (i : ℕ) → (i ≤ rank (turns step m i) n) ⊎ (turns step m (suc i) ≡ turns step m i)
      rising zero = inl (omega arith)
      rising (suc i) =
          let a = rank (turns step m i) n in
          let b = rank (turns step m (suc i)) n in
          ⊎_elim
          (λ h. by_test (ltb a b) (λ t. inl (omega (arith, h, ltb-true a b t))) (λ f. inr (again i (same i (ltb-false a b f)))))
          (λ e. inr (again i e))
          (rising i)

      pub still : step (turns step m n) ≡ turns step m n
      unfolding turns
      still = ⊎_elim (λ h. same n (omega (arith, h, rank_most (turns step m (suc n)) n))) (λ e. e) (rising n)

      pub settled : (i : ℕ) → rank (turns step m (suc i)) n ≤ rank (turns step m i) n → (j : ℕ) → turns step m (j + i) ≡ turns step m i
      unfolding turns
      settled i h j = turns_still i j (same i h)
