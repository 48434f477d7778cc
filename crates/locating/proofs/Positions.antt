-- The laws of `position_of`: byte by byte, and specs/Positions.antt proved. Assumes nothing.
use mathlib.Core.Path.{◌≡◌, refl, ap, ◌∙◌}
use mathlib.Core.Bool.{false, cond}
use mathlib.Core.List.{List, [], ◌∷◌}
use Prim.Native.Nat.{ℕ, zero, suc, ◌+◌, ◌-◌, ◌≤◌, ◌<◌}
use native.Mathlib.Numerals.{add-one}
use native.Mathlib.Omega.{arith}
use lib.Dec.{eqb}
use lib.ListN.{length, get_or, take, drop, drop_of_length-le}
use lib.Seq.{drop-cons}
use borrow.Author.Tests.{eq-eqb, ne_eqb}
use Rattle.base.proofs.Tests.{by_test, or_left, or_right}
use Rattle.marks.specs.Marks.{marked, text_of}
use Rattle.locating.specs.Positions.{position_of, PositionClaims}

next_byte : (c b : ℕ) (u : List ℕ) → (b ≡ 0 → ⊥) → position_of (c ∷ u) b ≡ suc (position_of u (cond (eqb c 255) b (b - 1)))
unfolding position_of
next_byte c zero u some = absurd (some refl)
next_byte c (suc b) u some = let e : suc b - 1 ≡ b = omega arith in rw e

none_due : (u : List ℕ) → position_of u 0 ≡ 0
unfolding position_of
none_due [] = refl
none_due (c ∷ u) = refl

-- ---- from byte i of the chunk w on, with `left` bytes of text still to come
module _ (w : List ℕ) (left i : ℕ) where
  pub found_here : left ≡ 0 → i + position_of (drop i w) left ≡ i
  found_here e = rw (e, none_due (drop i w)) (omega arith)

  pub at-end : length w ≤ i → i + position_of (drop i w) left ≡ i
  unfolding position_of
  at-end l = rw (drop_of_length-le w l) (omega arith)

  step : (left ≡ 0 → ⊥) → i < length w
      → i + position_of (drop i w) left ≡ i + 1 + position_of (drop (i + 1) w) (cond (eqb (get_or w i 0) 255) left (left - 1))
  step some l = rw (add-one i, drop-cons w i 0 l, next_byte (get_or w i 0) left (drop (suc i) w) some) (omega arith)

  pub past_mark : (left ≡ 0 → ⊥) → i < length w → get_or w i 0 ≡ 255 → i + position_of (drop i w) left ≡ i + 1 + position_of (drop (i + 1) w) left
  past_mark some l e = step some l ∙ rw (eq-eqb (get_or w i 0) 255 e)

  pub past_byte : (left ≡ 0 → ⊥) → i < length w → (get_or w i 0 ≡ 255 → ⊥) → i + position_of (drop i w) left ≡ i + 1 + position_of (drop (i + 1) w) (left - 1)
  past_byte some l e = step some l ∙ rw (ne_eqb (get_or w i 0) 255 e)

-- ---- specs/Positions.antt
within : (w : List ℕ) (b : ℕ) → position_of w b ≤ length w
unfolding position_of
within [] b = omega arith
within (c ∷ w) zero = omega arith
within (c ∷ w) (suc b) = omega (arith, within w (cond (eqb c 255) (suc b) b))

there : (w : List ℕ) (b : ℕ) → b ≤ length (text_of w) → length (text_of (take (position_of w b) w)) ≡ b
unfolding position_of text_of
there [] b l = omega arith
there (c ∷ w) zero l = refl
there (c ∷ w) (suc b) l =
    by_test (eqb c 255)
    (λ e. rw e (there w (suc b) (rw e at l)))
    (λ e. rw e (ap suc (there w b (let k : suc b ≤ length (c ∷ text_of w) = rw e at l in omega (arith, k)))))

least : (w : List ℕ) (b i : ℕ) → i < position_of w b → length (text_of (take i w)) < b
unfolding position_of text_of
least [] b i l = absurd (omega arith)
least (c ∷ w) zero i l = absurd (omega arith)
least (c ∷ w) (suc b) zero l = omega arith
least (c ∷ w) (suc b) (suc i) l =
    by_test (eqb c 255)
    (λ e. rw e (least w (suc b) i (let k : suc i < suc (position_of w (suc b)) = rw e at l in omega (arith, k))))
    (λ e. rw e (omega (arith, least w b i (let k : suc i < suc (position_of w b) = rw e at l in omega (arith, k)))))

unmarked : (w : List ℕ) (b : ℕ) → marked w ≡ false → b ≤ length w → position_of w b ≡ b
unfolding position_of marked
unmarked [] b e l = omega arith
unmarked (c ∷ w) zero e l = refl
unmarked (c ∷ w) (suc b) e l = rw (or_left (eqb c 255) (marked w) e) (ap suc (unmarked w b (or_right (eqb c 255) (marked w) e) (omega arith)))

pub position_claims : PositionClaims
position_claims = record { within = within; there = there; least = least; unmarked = unmarked }
