-- The section that is written for the target masks of a state has rising arcs, exactly those of the
-- masks, and at most 1,024 bytes. Assumes at most 256 states; the size, 32 states and 16 symbols.
use mathlib.Core.Path.{◌≡◌, refl, sym, subst}
use mathlib.Core.Bool.{Bool, true, false, cond}
use mathlib.Core.List.{List, [], ◌∷◌}
use Prim.Native.Nat.{ℕ, suc, ◌+◌, ◌*◌, ◌≤◌, ◌<◌}
use native.Mathlib.Nat.{le_refl}
use native.Mathlib.Omega.{arith}
use lib.ListN.{length}
use Rattle.base.specs.Lists.{joined}
use Rattle.base.proofs.Lists.{joined_length}
use Rattle.masks.specs.Masks.{◌∈◌, has}
use Rattle.masks.proofs.Laws.{has_member, member_of}
use Rattle.ruleformat.specs.Writing.{section_of}
use Rattle.ruleformat.proofs.Rising.{Rising, done, next, In, first, later, lower, raise, none_in, rising_joined, in_joined, joined_in}

arc_rises : {n : ℕ} (s t : ℕ) (b : Bool) → t < n → Rising n (256 * s + t) (256 * s + suc t) (cond b (s ∷ t ∷ []) [])
arc_rises s t true h = let l : 256 * s + t + 1 ≤ 256 * s + suc t = omega arith in next (le_refl (256 * s + t)) h (done l)
arc_rises s t false h = let l : 256 * s + t ≤ 256 * s + suc t = omega arith in done l

arc_in : {s t : ℕ} (u v : ℕ) (b : Bool) → In s t (cond b (u ∷ v ∷ []) []) → (b ≡ true) × (u ≡ s) × (v ≡ t)
arc_in u v true first = (refl, refl, refl)
arc_in u v true (later x) = absurd (none_in x)
arc_in u v false x = absurd (none_in x)

module _ (n k : ℕ) (few : n ≤ 256) (masks : ℕ → ℕ) where
  abbrev arc : ℕ → ℕ → List ℕ
  arc s t = cond (has (masks s) t) (s ∷ t ∷ []) []

  row_rises : (s : ℕ) → Rising n (256 * s) (256 * suc s) (joined (arc s) n)
  row_rises s =
      let low : 256 * s ≤ 256 * s + 0 = omega arith in
      let high : 256 * s + n ≤ 256 * suc s = omega arith in
      lower low (raise high (rising_joined (λ t. 256 * s + t) (arc s) n (λ t h. arc_rises s t (has (masks s) t) h) n (le_refl n)))

  pub section_rises : Rising n 0 (256 * k) (section_of n k masks)
  section_rises = rising_joined (λ s. 256 * s) (λ s. joined (arc s) n) k (λ s h. row_rises s) k (le_refl k)

  pub arcs_of : {s t : ℕ} → In s t (section_of n k masks) → (s < k) × (t < n) × (t ∈ masks s)
  arcs_of {s} {t} x =
      let a = joined_in (λ u. 256 * u) (λ u. joined (arc u) n) k (λ u h. row_rises u) k (le_refl k) x in
      let b = joined_in (λ v. 256 * a.0 + v) (arc a.0) n (λ v h. arc_rises a.0 v (has (masks a.0) v) h) n (le_refl n) a.2 in
      let c = arc_in a.0 b.0 (has (masks a.0) b.0) b.2 in (
        rw c.1 at a.1,
        rw c.2 at b.1,
        subst (λ (v : ℕ). v ∈ masks s) c.2 (subst (λ (u : ℕ). b.0 ∈ masks u) c.1 (member_of (masks a.0) b.0 c.0)),
      )

  pub of_arcs : {s t : ℕ} → s < k → t < n → t ∈ masks s → In s t (section_of n k masks)
  of_arcs {s} {t} hs ht m =
      let e : has (masks s) t ≡ true = has_member (masks s) t m in
      let x : In s t (arc s t) = subst (λ (b : Bool). In s t (cond b (s ∷ t ∷ []) [])) (sym e) first in
      let y : In s t (joined (arc s) n) =
      in_joined (λ v. 256 * s + v) (arc s) n (λ v h. arc_rises s v (has (masks s) v) h) n t (le_refl n) ht x in
      in_joined (λ u. 256 * u) (λ u. joined (arc u) n) k (λ u h. row_rises u) k s (le_refl k) hs y

  -- it has at most two bytes for each symbol and state
  pub section_size : n ≤ 32 → k ≤ 16 → length (section_of n k masks) ≤ 1024
  section_size hn hk =
      let size : (s t : ℕ) (b : Bool) → length (cond b (s ∷ t ∷ []) []) ≤ 2 =
      λ s t b. elim b as (λ (k : Bool). length (cond k (s ∷ t ∷ []) []) ≤ 2) [ true ↦ le_refl 2 | false ↦ omega arith ] in
      let row : (s : ℕ) → length (joined (arc s) n) ≤ 64 =
      λ s. let h = joined_length (arc s) n 2 (λ t l. size s t (has (masks s) t)) in omega arith in
      let h = joined_length (λ s. joined (arc s) n) k 64 (λ s l. row s) in
      omega arith
