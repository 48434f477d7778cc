-- Tests and their cases. What mathlib.Core.Bool and borrow.Author.Tests have stands there. Assumes
-- nothing.
--
--   zero_one                       what `cc` finds contradictory: `zero_one cc` proves anything
--   by_test                        the two cases of a test, each with its equation
--   either                         what holds in both cases holds of the test
--   not_both                       a test is not both true and false
--   or_either, or_neither          one of two tests holds; neither does
--   or_left, or_right              where not one of them holds, the first and the second fail
--   same_truth                     two tests that hold in the same cases are equal
--   either_most, one_most          bounds of a number that a test picks
use mathlib.Core.Path.{◌≡◌, refl, sym}
use mathlib.Core.Logic.{◌↔◌, ◌⊎◌, ⊎_elim}
use mathlib.Core.Bool.{Bool, true, false, cond, ◌||◌}
use Prim.Native.Nat.{ℕ, ◌≤◌}
use native.Mathlib.Omega.{arith}

pub zero_one : {A : Type 0} → ◌≡◌ {A = ℕ} 0 1 → A
zero_one e = absurd (omega (arith, e))

pub by_test : {P : Type 0} (b : Bool) → (b ≡ true → P) → (b ≡ false → P) → P
by_test true f g = f refl
by_test false f g = g refl

pub either : (b : Bool) (P : Bool → Type 0) → P true → P false → P b
either true P x y = x
either false P x y = y

pub not_both : {A : Type 0} {b : Bool} → b ≡ true → b ≡ false → A
not_both t f = zero_one cc

-- ---- one or the other
pub or_either : (a b : Bool) → (a ≡ true) ⊎ (b ≡ true) → (a || b) ≡ true
or_either true b e = refl
or_either false b e = ⊎_elim (λ x. not_both x refl) (λ x. x) e

pub or_neither : (a b : Bool) → a ≡ false → b ≡ false → (a || b) ≡ false
or_neither a b x y = rw (x, y)

pub or_left : (a b : Bool) → (a || b) ≡ false → a ≡ false
or_left true b e = e
or_left false b e = refl

pub or_right : (a b : Bool) → (a || b) ≡ false → b ≡ false
or_right true b e = not_both refl e
or_right false b e = e

pub same_truth : (a b : Bool) → (a ≡ true) ↔ (b ≡ true) → a ≡ b
same_truth true true law = refl
same_truth true false law = sym (law.0 refl)
same_truth false true law = law.1 refl
same_truth false false law = refl

-- ---- a number that a test picks
pub either_most : (b : Bool) {x y most : ℕ} → x ≤ most → y ≤ most → cond b x y ≤ most
either_most true h l = h
either_most false h l = l

pub one_most : (b : Bool) → cond b 1 0 ≤ 1
one_most b = either_most b (omega arith) (omega arith)
