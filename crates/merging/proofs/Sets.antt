-- The sets of states of the result: the members of a shifted mask, of the pairs of two masks, and
-- of the initial and final states; each is a set of states. Assumes nothing.
--
--   shift_law               the members of a shifted mask
--   pairs_law               the one law of pairs, from which all else on pairs follows
--   beside_law, set_law     the members of two sets of states beside each other, and by each way
--   set_below               a set of the result's states
--   some_state              the result has a state
use mathlib.Core.Path.{◌≡◌, sym, ap, ◌∙◌, subst}
use mathlib.Core.Logic.{◌↔◌, inl, inr, ⊎_elim}
use Prim.Native.Nat.{ℕ, suc, ◌+◌, ◌-◌, ◌*◌, ◌/◌, ◌%◌, ◌^◌, ◌<◌, ◌≤◌}
use native.Mathlib.Nat.{mul-mod_left, mul_assoc, pow-suc, div-mul-le_self, lt_of_lt_of_le, zero-div, zero-mod}
use native.Mathlib.Omega.{arith}
use lib.Dec.{ltb}
use lib.Pow.{pow-add, pow_mono, shr-shr, shl-shr}
use borrow.Author.Tests.{ltb-true, ltb-false}
use Rattle.base.proofs.Tests.{by_test}
use Rattle.masks.specs.Masks.{bit, ◌∈◌}
use Rattle.masks.proofs.Laws.{members_below, below_of, part_of, in_union, or_cases, or_left, or_right}
use Rattle.products.specs.Products.{OfBoth, Own}
use Rattle.products.proofs.Numbers.{left_of, right_of, rest_of, pair_below}
use Rattle.merging.specs.declared.Way.{Way}
use Rattle.merging.specs.declared.Way.TheVariants.{Both, Either, Interleaving}
use Rattle.merging.specs.Merged.{states_of, pairs, beside, set_of}

-- ---- a mask times 2 ^ k
shifted_bit : (m k j : ℕ) → bit (m * 2 ^ k) (k + j) ≡ bit m j
shifted_bit m k j =
    ap (λ (x : ℕ). x % 2) (sym (shr-shr (m * 2 ^ k) k j) ∙ ap (λ (x : ℕ). x / 2 ^ j) (shl-shr m k))

low_bit : (m k p : ℕ) → p < k → bit (m * 2 ^ k) p ≡ 0
low_bit m k p h =
    let j : ℕ = k - p - 1 in
    let e : k ≡ suc j + p = omega arith in
    let f : m * 2 ^ k ≡ m * 2 ^ j * 2 * 2 ^ p =
    ap (λ (x : ℕ). m * 2 ^ x) e
    ∙ ap (λ (x : ℕ). m * x) (pow-add 2 (suc j) p ∙ ap (λ (x : ℕ). x * 2 ^ p) (pow-suc 2 j))
    ∙ sym (mul_assoc m (2 ^ j * 2) (2 ^ p))
    ∙ ap (λ (x : ℕ). x * 2 ^ p) (sym (mul_assoc m (2 ^ j) 2)) in
    ap (λ (x : ℕ). x / 2 ^ p % 2) f
    ∙ ap (λ (x : ℕ). x % 2) (shl-shr (m * 2 ^ j * 2) p)
    ∙ mul-mod_left (m * 2 ^ j) 2

pub shift_law : (m k p : ℕ) → p ∈ (m * 2 ^ k) ↔ ((k ≤ p) × ((p - k) ∈ m))
shift_law m k p = (
  (λ i.
      by_test (ltb p k)
      (λ f. absurd (omega (arith, low_bit m k p (ltb-true p k f), i)))
      (λ f.
      let l : k ≤ p = ltb-false p k f in
      let e : k + (p - k) ≡ p = omega arith in
      (l, sym (shifted_bit m k (p - k)) ∙ ap (λ (x : ℕ). bit (m * 2 ^ k) x) e ∙ i))),
  λ r.
      let l = r.0 in
      let e : k + (p - k) ≡ p = omega arith in
      ap (λ (x : ℕ). bit (m * 2 ^ k) x) (sym e) ∙ shifted_bit m k (p - k) ∙ r.1,
)

-- ---- pairs
-- a number that lies less than n past x * n is the pair of x and the rest
pub pairs_law : (m1 m2 n2 p : ℕ) → m1 < 2 ^ 32 → m2 < 2 ^ n2
    → p ∈ pairs m1 m2 n2 ↔ (((p / n2) ∈ m1) × ((p % n2) ∈ m2))
pairs_law m1 m2 n2 p h1 h2 = (
  (λ i.
      let r = part_of (λ q. m2 * 2 ^ (q * n2)) m1 p 32 i in
      let t = (shift_law m2 (r.from * n2) p).0 r.there in
      let l : p - r.from * n2 < n2 = members_below n2 m2 (p - r.from * n2) h2 t.1 in
      let e : r.from * n2 + (p - r.from * n2) ≡ p = omega (arith, t.0) in
      let d : p / n2 ≡ r.from =
      ap (λ (x : ℕ). x / n2) (sym e) ∙ left_of n2 r.from (p - r.from * n2) l in
      let m : p % n2 ≡ p - r.from * n2 =
      ap (λ (x : ℕ). x % n2) (sym e) ∙ right_of n2 r.from (p - r.from * n2) l in
      (subst (λ (x : ℕ). x ∈ m1) (sym d) r.member, subst (λ (x : ℕ). x ∈ m2) (sym m) t.1)),
  λ r.
      in_union (λ q. m2 * 2 ^ (q * n2)) m1 p 32 (p / n2)
      (members_below 32 m1 (p / n2) h1 r.0)
      r.0
      ((shift_law m2 (p / n2 * n2) p).1
      (div-mul-le_self p n2, subst (λ (x : ℕ). x ∈ m2) (rest_of n2 p) r.1)),
)

-- ---- the sets of states
pub wide : (n m : ℕ) → n ≤ 32 → m < 2 ^ n → m < 2 ^ 32
wide n m h l = lt_of_lt_of_le l (pow_mono h)

-- what a state of the result is, from what it is in the two rules
abbrev pub Marked : Way → ℕ → ℕ → (ℕ → Type 0) → (ℕ → Type 0) → ℕ → Type 0
Marked Both n1 n2 P R q = OfBoth n2 P R q
Marked Either n1 n2 P R q = Own n1 P R q
Marked Interleaving n1 n2 P R q = OfBoth n2 P R q

module _ (n1 n2 m1 m2 : ℕ) (few : n1 ≤ 32) (h1 : m1 < 2 ^ n1) (h2 : m2 < 2 ^ n2) where
  beside_law : (q : ℕ) → q ∈ beside m1 m2 n1 ↔ Own n1 (λ x. x ∈ m1) (λ x. x ∈ m2) q
  beside_law q = (
    (λ e.
        ⊎_elim
        (λ i. inl (members_below n1 m1 q h1 i, i))
        (λ i. inr ((shift_law m2 n1 q).0 i))
        (or_cases m1 (m2 * 2 ^ n1) q e)),
    λ t.
        ⊎_elim
        (λ i. or_left m1 (m2 * 2 ^ n1) q i.1)
        (λ i. or_right m1 (m2 * 2 ^ n1) q ((shift_law m2 n1 q).1 i))
        t,
  )

  pub set_law : (way : Way) (q : ℕ)
      → q ∈ set_of way n1 n2 m1 m2 ↔ Marked way n1 n2 (λ x. x ∈ m1) (λ x. x ∈ m2) q
  set_law Both q = pairs_law m1 m2 n2 q (wide n1 m1 few h1) h2
  set_law Either q = beside_law q
  set_law Interleaving q = pairs_law m1 m2 n2 q (wide n1 m1 few h1) h2

  pair_marked : (q : ℕ) → OfBoth n2 (λ x. x ∈ m1) (λ x. x ∈ m2) q → q < n1 * n2
  pair_marked q t =
      pair_below n1 n2 q (members_below n1 m1 (q / n2) h1 t.0) (members_below n2 m2 (q % n2) h2 t.1)

  marked_below : (way : Way) (q : ℕ) → Marked way n1 n2 (λ x. x ∈ m1) (λ x. x ∈ m2) q
      → q < states_of way n1 n2
  marked_below Both q t = pair_marked q t
  marked_below Either q t =
      ⊎_elim
      (λ i. omega (arith, i.0))
      (λ i. omega (arith, i.0, members_below n2 m2 (q - n1) h2 i.1))
      t
  marked_below Interleaving q t = pair_marked q t

  pub set_below : (way : Way) → set_of way n1 n2 m1 m2 < 2 ^ states_of way n1 n2
  set_below way =
      below_of (states_of way n1 n2) (set_of way n1 n2 m1 m2) (λ q e. marked_below way q ((set_law way q).0 e))

pair_one : (n1 n2 : ℕ) → 1 ≤ n1 → 1 ≤ n2 → 1 ≤ n1 * n2
pair_one n1 n2 h1 h2 = pair_below n1 n2 0 (rw zero-div h1) (rw zero-mod h2)

pub some_state : (way : Way) (n1 n2 : ℕ) → 1 ≤ n1 → 1 ≤ n2 → 1 ≤ states_of way n1 n2
some_state Both n1 n2 l m = pair_one n1 n2 l m
some_state Either n1 n2 l m = omega arith
some_state Interleaving n1 n2 l m = pair_one n1 n2 l m
