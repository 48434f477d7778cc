-- The laws of hex digits and their pairs. Assumes nothing.
use mathlib.Core.Path.{◌≡◌, refl, sym, ◌∙◌}
use mathlib.Core.Bool.{true, false, ◌&&◌, and-eq-true_iff, and-false}
use mathlib.Core.List.{List, [], ◌∷◌, ◌++◌}
use mathlib.Core.Option.{none, some}
use Prim.Native.Nat.{ℕ, zero, suc, ◌+◌, ◌*◌, ◌-◌, ◌%◌, ◌≤◌, ◌<◌}
use native.Mathlib.Numerals.{add-one}
use native.Mathlib.Omega.{arith}
use borrow.Author.Tests.{le-leb, lt-leb, lt-ltb, le-ltb, ltb-true, ne_eqb}
use lib.Dec.{leb, ltb, eqb}
use lib.ListN.{length, get_or, drop, take, drop_of_length-le}
use lib.Seq.{drop-cons, take_all}
use Rattle.base.proofs.Tests.{by_test}
use Rattle.text.specs.Writing.{Wrote}
use Rattle.text.proofs.Pieces.{wrote_none}
use Rattle.fields.specs.Bytes.{within, hex_value, all_hex, pairs, parse_bytes, TookOf}

module _ (low high c : ℕ) where
  pub within_so : low ≤ c → c ≤ high → within low high c ≡ true
  within_so l h = rw (le-leb low c l, le-leb c high h)

  pub within_low : c < low → within low high c ≡ false
  within_low h = rw (lt-leb low c h)

  pub within_high : high < c → within low high c ≡ false
  within_high h = rw (lt-leb c high h) (and-false (leb low c))

-- ---- whether the bytes from i on are hex digits
module _ (w : List ℕ) (i : ℕ) where
  pub hex_stray : i < length w → 16 ≤ hex_value (get_or w i 0) → all_hex (drop i w) ≡ false
  unfolding all_hex
  hex_stray h l = rw (drop-cons w i 0 h, le-ltb (hex_value (get_or w i 0)) 16 l)

  pub hex_on : i < length w → hex_value (get_or w i 0) < 16 → all_hex (drop i w) ≡ all_hex (drop (i + 1) w)
  unfolding all_hex
  hex_on h l = rw (add-one, drop-cons w i 0 h, lt-ltb (hex_value (get_or w i 0)) 16 l)

  pub hex_end : length w ≤ i → all_hex (drop i w) ≡ true
  unfolding all_hex
  hex_end h = rw (drop_of_length-le w h)

pub hex_append : (v w : List ℕ) → all_hex (v ++ w) ≡ all_hex v && all_hex w
unfolding all_hex
hex_append [] w = refl
hex_append (x ∷ v) w = by_test (ltb (hex_value x) 16) (λ e. rw e (hex_append v w)) (λ e. rw e)

-- ---- the pairs
pub pairs_at : (w : List ℕ) (i : ℕ) → 2 * i + 1 < length w
    → get_or (pairs w) i 0 ≡ 16 * hex_value (get_or w (2 * i) 0) + hex_value (get_or w (2 * i + 1) 0)
unfolding pairs
pairs_at [] i h = absurd (omega arith)
pairs_at (a ∷ []) i h = absurd (omega arith)
pairs_at (a ∷ b ∷ w) zero h = refl
pairs_at (a ∷ b ∷ w) (suc i) h =
    let e : 2 * suc i ≡ suc (suc (2 * i)) = omega arith in
    let e₁ : suc (suc (2 * i)) + 1 ≡ suc (suc (2 * i + 1)) = omega arith in
    rw (e, e₁) (pairs_at w i (omega arith))

pub pairs_length : (w : List ℕ) → (2 * length (pairs w) ≤ length w) × (length w ≤ 2 * length (pairs w) + 1)
unfolding pairs
pairs_length [] = (omega arith, omega arith)
pairs_length (a ∷ []) = (omega arith, omega arith)
pairs_length (a ∷ b ∷ w) = let g = pairs_length w in (omega (arith, g), omega (arith, g))

pub hex_at : (w : List ℕ) → all_hex w ≡ true → (i : ℕ) → i < length w → hex_value (get_or w i 0) < 16
unfolding all_hex
hex_at [] e i h = absurd (omega arith)
hex_at (c ∷ w) e zero h = ltb-true (hex_value c) 16 ((and-eq-true_iff (ltb (hex_value c) 16) (all_hex w)).0 e).0
hex_at (c ∷ w) e (suc i) h = hex_at w ((and-eq-true_iff (ltb (hex_value c) 16) (all_hex w)).0 e).1 i (omega arith)

-- with fewer than two digits left past the first i pairs, those are all of them
pub pairs_all : (w : List ℕ) (i most : ℕ) → length w - 2 * i < 2 → i ≤ most → take most (pairs w) ≡ take i (pairs w)
pairs_all w i most left h =
    let g = pairs_length w in
    take_all most (pairs w) (omega (arith, g)) ∙ sym (take_all i (pairs w) (omega (arith, g)))

-- ---- what reading a field comes to, for each way out
module _ (w out : List ℕ) where
  pub took_dash : length w ≡ 1 → get_or w 0 0 ≡ 45 → TookOf (parse_bytes w) out (some 0) out
  unfolding parse_bytes
  took_dash e d = rw (e, d) (0, refl, rw (take_all {A = ℕ} (length out) [] (omega arith)) (wrote_none out 0))

  pub took_stray : length w ≡ 1 → (get_or w 0 0 ≡ 45 → ⊥) → TookOf (parse_bytes w) out none out
  unfolding parse_bytes
  took_stray e d = rw (e, ne_eqb (get_or w 0 0) 45 d) (refl, refl)

  pub took_empty : length w ≡ 0 → TookOf (parse_bytes w) out none out
  unfolding parse_bytes
  took_empty e = rw e (refl, refl)

  module _ (some_more : length w ≡ 1 → ⊥) where
    pub took_odd : length w % 2 ≡ 1 → TookOf (parse_bytes w) out none out
    unfolding parse_bytes
    took_odd e = rw (ne_eqb (length w) 1 some_more, e, and-false (leb 1 (length w))) (refl, refl)

    pub took_other : all_hex w ≡ false → TookOf (parse_bytes w) out none out
    unfolding parse_bytes
    took_other e = rw (ne_eqb (length w) 1 some_more, e, and-false (eqb (length w % 2) 0), and-false (leb 1 (length w))) (refl, refl)

    pub took_pairs : (length w ≡ 0 → ⊥) → (length w % 2 ≡ 1 → ⊥) → all_hex w ≡ true → (after : List ℕ) (n : ℕ)
        → Wrote out 0 (take (length out) (pairs w)) after n → TookOf (parse_bytes w) out (some n) after
    unfolding parse_bytes
    took_pairs not_None not_odd e after n h =
        let even : length w % 2 ≡ 0 = omega arith in
        rw (ne_eqb (length w) 1 some_more, even, e, le-leb 1 (length w) (omega arith)) (n, refl, h)
