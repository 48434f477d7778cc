-- The laws of idle marks and of the text of a chunk, byte by byte. Assumes nothing.
use mathlib.Core.Path.{◌≡◌, refl, ap, ◌∙◌}
use mathlib.Core.Bool.{Bool, true, false, ◌||◌, or-true, or-false}
use mathlib.Core.List.{List, [], ◌∷◌, ◌++◌, append-nil}
use Prim.Native.Nat.{ℕ, ◌+◌, ◌≤◌, ◌<◌}
use native.Mathlib.Numerals.{add-one}
use native.Mathlib.Omega.{arith}
use borrow.Author.Tests.{eq-eqb, ne_eqb}
use lib.Dec.{eqb}
use lib.ListN.{length, get_or, take, drop, drop_of_length-le}
use lib.Seq.{drop-cons, take-suc}
use Rattle.base.proofs.Tests.{by_test, or_left, or_right}
use Rattle.marks.specs.Marks.{marked, text_of}

-- ---- whether a mark is left from byte i on, where `found` says whether a byte before is one
module _ (w : List ℕ) (i : ℕ) (found : Bool) where
  pub marked_here : i < length w → get_or w i 0 ≡ 255 → found || marked (drop i w) ≡ true
  unfolding marked
  marked_here h e = rw (drop-cons w i 0 h, eq-eqb (get_or w i 0) 255 e) (or-true found)

  pub marked_on : i < length w → (get_or w i 0 ≡ 255 → ⊥) → found || marked (drop i w) ≡ found || marked (drop (i + 1) w)
  unfolding marked
  marked_on h n = rw (add-one, drop-cons w i 0 h, ne_eqb (get_or w i 0) 255 n)

  pub marked_none : length w ≤ i → found || marked (drop i w) ≡ found
  unfolding marked
  marked_none h = rw (drop_of_length-le w h) (or-false found)

-- ---- the text
pub mark_skipped : (w : List ℕ) → text_of (255 ∷ w) ≡ text_of w
unfolding text_of
mark_skipped w = refl

pub byte_kept : (b : ℕ) (w : List ℕ) → (b ≡ 255 → ⊥) → text_of (b ∷ w) ≡ b ∷ text_of w
unfolding text_of
byte_kept b w n = rw (ne_eqb b 255 n)

pub unmarked : (w : List ℕ) → marked w ≡ false → text_of w ≡ w
unfolding marked text_of
unmarked [] e = refl
unmarked (b ∷ w) e = rw (or_left (eqb b 255) (marked w) e) (ap (λ (x : List ℕ). b ∷ x) (unmarked w (or_right (eqb b 255) (marked w) e)))

pub text_unmarked : (w : List ℕ) → marked (text_of w) ≡ false
unfolding marked text_of
text_unmarked [] = refl
text_unmarked (b ∷ w) = by_test (eqb b 255) (λ t. rw t (text_unmarked w)) (λ t. rw (t, t) (text_unmarked w))

pub no_longer : (w : List ℕ) → length (text_of w) ≤ length w
unfolding text_of
no_longer [] = omega arith
no_longer (b ∷ w) = by_test (eqb b 255) (λ t. rw t (omega (arith, no_longer w))) (λ t. rw t (omega (arith, no_longer w)))

pub text_append : (v w : List ℕ) → text_of (v ++ w) ≡ text_of v ++ text_of w
unfolding text_of
text_append [] w = refl
text_append (b ∷ v) w =
    by_test (eqb b 255)
    (λ t. rw t (text_append v w))
    (λ t. rw t (ap (λ (x : List ℕ). b ∷ x) (text_append v w)))

-- ---- packing: the text of the first i bytes stands at the start of the buffer
module _ (w : List ℕ) (i : ℕ) (h : i < length w) where
  text_next : text_of (take (i + 1) w) ≡ text_of (take i w) ++ text_of (get_or w i 0 ∷ [])
  text_next = ap text_of (rw (add-one, take-suc w i 0 h)) ∙ text_append (take i w) (get_or w i 0 ∷ [])

  pub skipped : get_or w i 0 ≡ 255 → text_of (take i w) ≡ text_of (take (i + 1) w)
  unfolding text_of
  skipped e = rw (text_next, eq-eqb (get_or w i 0) 255 e) (rw append-nil)

  pub kept : (get_or w i 0 ≡ 255 → ⊥) → text_of (take i w) ++ (get_or w i 0 ∷ []) ≡ text_of (take (i + 1) w)
  unfolding text_of
  kept n = rw (text_next, ne_eqb (get_or w i 0) 255 n)
