-- A turn of each loop, over plain variables. Assumes nothing.
use mathlib.Core.Path.{◌≡◌, sym, ap, ◌∙◌}
use mathlib.Core.Logic.{◌⊎◌, ⊎_elim}
use mathlib.Core.Bool.{Bool, true, false, not}
use mathlib.Core.List.{List}
use Prim.Native.Nat.{ℕ, suc, ◌+◌, ◌≤◌, ◌<◌}
use native.Mathlib.Numerals.{add-one}
use native.Mathlib.Omega.{arith}
use lib.Dec.{eqb, ltb}
use lib.Bits.{bit_or, or_zero_r}
use lib.ListN.{length, get_or, set, length-set}
use lib.Seq.{get_or-set_same, get_or-set_other}
use borrow.Author.Tests.{eq-eqb, ne_eqb, lt-ltb, le-ltb, eqb-true, eqb-false, ltb-true, ltb-false}
use Rattle.base.proofs.Tests.{by_test}
use Rattle.limits.specs.Limits.{table_cells}
use Rattle.masks.specs.Masks.{single, mask_of}
use Rattle.forms.specs.Form.{cell, how_many, picked, equal_cells, best_below, failure_of, keeps_from, keeps}
use Rattle.forms.proofs.Picking.{many_le, many_step, many_skip, picked_skip, picked_last, picked_before, picked_past}

-- ---- counting and choosing
pub equal_more : (l : List ℕ) (t u s n m : ℕ) → n ≤ s → n ≡ equal_cells l s t u
    → ((cell l t s ≡ cell l u s) × (m ≡ n + 1)) ⊎ ((cell l t s ≡ cell l u s → ⊥) × (m ≡ n))
    → (m ≤ s + 1) × (m ≡ equal_cells l (s + 1) t u)
equal_more l t u s n m b e o =
    ⊎_elim
    (λ x.
    let f = many_step (λ i. eqb (cell l t i) (cell l u i)) s (eq-eqb (cell l t s) (cell l u s) x.0) in
    (omega (arith, x.1), rw (add-one s) (omega (arith, x.1))))
    (λ x.
    let f = many_skip (λ i. eqb (cell l t i) (cell l u i)) s (ne_eqb (cell l t s) (cell l u s) x.0) in
    (omega (arith, x.1), rw (add-one s) (omega (arith, x.1))))
    o

pub best_more : (l : List ℕ) (k t u best most b m e : ℕ) → best ≤ u → best ≡ best_below l k t u → most ≡ equal_cells l k t best → e ≡ equal_cells l k t u
    → ((most < e) × (b ≡ u) × (m ≡ e)) ⊎ ((e ≤ most) × (b ≡ best) × (m ≡ most))
    → (b ≤ u + 1) × (b ≡ best_below l k t (u + 1)) × (m ≡ equal_cells l k t b)
unfolding best_below
best_more l k t u best most b m e c d f g o =
    let f' : equal_cells l k t (best_below l k t u) ≡ most = ap (equal_cells l k t) (sym d) ∙ sym f in
    ⊎_elim
    (λ x.
    let y : ltb (equal_cells l k t (best_below l k t u)) (equal_cells l k t u) ≡ true
    = lt-ltb (equal_cells l k t (best_below l k t u)) (equal_cells l k t u) (omega (arith, x.0)) in
    (omega (arith, x.1), rw (add-one u, y) x.1, x.2 ∙ g ∙ ap (equal_cells l k t) (sym x.1)))
    (λ x.
    let y : ltb (equal_cells l k t (best_below l k t u)) (equal_cells l k t u) ≡ false
    = le-ltb (equal_cells l k t (best_below l k t u)) (equal_cells l k t u) (omega (arith, x.0)) in
    (omega (arith, x.1), rw (add-one u, y) (x.1 ∙ d), x.2 ∙ f ∙ ap (equal_cells l k t) (sym x.1)))
    o

-- ---- the mask of a set
pub keep_first : (l : List ℕ) (t u s : ℕ) → t ≡ 0 → true ≡ keeps_from l t u s
keep_first l t u s e = rw (eq-eqb t 0 e)

pub keep_other : (l : List ℕ) (t u s : ℕ) → (t ≡ 0 → ⊥) → not (eqb (cell l t s) (cell l u s)) ≡ keeps_from l t u s
keep_other l t u s e = rw (ne_eqb t 0 e)

pub mask_more : (l : List ℕ) (k t u s n m : ℕ) (r : Bool) → u ≡ failure_of l k t → n ≡ mask_of (keeps l k t) s → r ≡ keeps_from l t u s
    → ((r ≡ true) × (m ≡ bit_or n (single s))) ⊎ ((r ≡ false) × (m ≡ n))
    → m ≡ mask_of (keeps l k t) (s + 1)
unfolding mask_of keeps
mask_more l k t u s n m r e d f o =
    let f' : keeps_from l t (failure_of l k t) s ≡ r = ap (λ (x : ℕ). keeps_from l t x s) (sym e) ∙ sym f in
    ⊎_elim
    (λ x. rw (add-one s, f', x.0) (x.1 ∙ ap (λ (y : ℕ). bit_or y (single s)) d))
    (λ x. rw (add-one s, f', x.0) (x.1 ∙ d ∙ sym (or_zero_r (mask_of (keeps l k t) s))))
    o

-- ---- packing: the array has what was picked so far, and zeros
module _ (p : ℕ → Bool) (g : ℕ → ℕ) where
  abbrev pub Packed : ℕ → List ℕ → Type 0
  Packed c cells = (i : ℕ) → i < table_cells → get_or cells i 0 ≡ get_or (picked p g c) i 0

  pub packed_none : (cells : List ℕ) → ((i : ℕ) → get_or cells i 0 ≡ 0) → Packed 0 cells
  packed_none cells h i b = h i ∙ sym (picked_past p g 0 i (omega (arith, many_le p 0)))

  one_more : (c at : ℕ) (cells : List ℕ) → p c ≡ true → at ≡ how_many p c → at < length cells → Packed c cells → Packed (suc c) (set cells at (g c))
  one_more c at cells e q n h i b =
      by_test (eqb i at)
      (λ t.
      let z : i ≡ at = eqb-true i at t in
      rw z (get_or-set_same cells at (g c) 0 n ∙ sym (rw q (picked_last p g c e))))
      (λ t.
      get_or-set_other cells at i (g c) 0 (eqb-false i at t)
      ∙ h i b
      ∙ by_test (ltb i at)
      (λ u. sym (picked_before p g c i (omega (arith, ltb-true i at u))))
      (λ u. picked_past p g c i (omega (arith, ltb-false i at u))
      ∙ sym (picked_past p g (suc c) i (omega (arith, many_step p c e, ltb-false i at u, eqb-false i at t)))))

  same_more : (c : ℕ) (cells : List ℕ) → p c ≡ false → Packed c cells → Packed (suc c) cells
  same_more c cells e h i b = h i b ∙ ap (λ (l : List ℕ). get_or l i 0) (sym (picked_skip p g c e))

  pub pack_more : (c at at' : ℕ) (cells cells' : List ℕ) (r : Bool) → r ≡ p c → at ≡ how_many p c → at ≤ c → c < table_cells
      → length cells ≡ table_cells → Packed c cells
      → ((r ≡ true) × (cells' ≡ set cells at (g c)) × (at' ≡ at + 1)) ⊎ ((r ≡ false) × (cells' ≡ cells) × (at' ≡ at))
      → (at' ≡ how_many p (c + 1)) × (at' ≤ c + 1) × (length cells' ≡ table_cells) × Packed (c + 1) cells'
  pack_more c at at' cells cells' r e q le b n h o =
      ⊎_elim
      (λ x.
      let t : p c ≡ true = sym e ∙ x.0 in
      let s = many_step p c t in (
        rw (add-one c) (omega (arith, x.2)),
        omega (arith, x.2),
        ap length x.1 ∙ length-set cells at (g c) ∙ n,
        rw (add-one c, x.1) (one_more c at cells t q (omega arith) h),
      ))
      (λ x.
      let t : p c ≡ false = sym e ∙ x.0 in
      let s = many_skip p c t in (
        rw (add-one c) (omega (arith, x.2)),
        omega (arith, x.2),
        ap length x.1 ∙ n,
        rw (add-one c, x.1) (same_more c cells t h),
      ))
      o
