-- The laws of the first of several values that may be missing. Assumes nothing.
--
--   first_next            one number more
--   first_more            none so far, and none here
--   first_here            none so far, and one here
--   none_found            none there is exactly where there is none of each
--   one_found             x is the first exactly where some number has it, and none before has any
--   first-same            of the same values
use mathlib.Core.Path.{◌≡◌, refl, sym, ap, ◌∙◌}
use mathlib.Core.Logic.{◌↔◌, ◌⊎◌, inl, inr, ⊎_elim}
use mathlib.Core.Option.{Option, none, some}
use Prim.Native.Nat.{ℕ, zero, suc, ◌+◌, ◌<◌}
use native.Mathlib.Nat.{eq-or-lt_of_le, le_of_suc-le-suc}
use native.Mathlib.Numerals.{add-one}
use native.Mathlib.Omega.{arith}
use Rattle.base.proofs.Options.{none-some}
use Rattle.faults.specs.First.{or_else, first_found}

-- ---- two values
module _ {A : Type 0} where
  else_none : (o u : Option A) → or_else o u ≡ none → (o ≡ none) × (u ≡ none)
  else_none none u e = (refl, e)
  else_none (some x) u e = none-some e refl

  else_some : (o u : Option A) (x : A) → or_else o u ≡ some x → (o ≡ some x) ⊎ ((o ≡ none) × (u ≡ some x))
  else_some none u x e = inr (refl, e)
  else_some (some y) u x e = inl e

-- ---- the values of the numbers below a bound
module _ {A : Type 0} (f : ℕ → Option A) where
  pub first_next : (n : ℕ) → first_found f (n + 1) ≡ or_else (first_found f n) (f n)
  unfolding first_found
  first_next n = rw add-one

  pub first_more : (n : ℕ) → first_found f n ≡ none → f n ≡ none → first_found f (n + 1) ≡ none
  first_more n e h = first_next n ∙ rw (e, h)

  nothing : (n : ℕ) → first_found f n ≡ none → (i : ℕ) → i < n → f i ≡ none
  unfolding first_found
  nothing zero e i l = absurd (omega arith)
  nothing (suc n) e i l =
      let x = else_none (first_found f n) (f n) e in
      ⊎_elim (λ z. ap f z ∙ x.1) (λ b. nothing n x.0 i b) (eq-or-lt_of_le (le_of_suc-le-suc l))

  no_one : (n : ℕ) → ((i : ℕ) → i < n → f i ≡ none) → first_found f n ≡ none
  unfolding first_found
  no_one zero h = refl
  no_one (suc n) h = rw (no_one n (λ i l. h i (omega arith)), h n (omega arith))

  pub none_found : (n : ℕ) → (first_found f n ≡ none) ↔ ((i : ℕ) → i < n → f i ≡ none)
  none_found n = (nothing n, no_one n)

  pub first_here : (n i : ℕ) (x : A) → i < n → first_found f i ≡ none → f i ≡ some x → first_found f n ≡ some x
  unfolding first_found
  first_here zero i x l before here = absurd (omega arith)
  first_here (suc n) i x l before here =
      ⊎_elim
      (λ z. let e : first_found f n ≡ none = ap (first_found f) (sym z) ∙ before in rw e (ap f (sym z) ∙ here))
      (λ b. rw (first_here n i x b before here))
      (eq-or-lt_of_le (le_of_suc-le-suc l))

  something : (n : ℕ) (x : A) → first_found f n ≡ some x → (i : ℕ) × (i < n) × (f i ≡ some x) × ((j : ℕ) → j < i → f j ≡ none)
  unfolding first_found
  something zero x e = none-some refl e
  something (suc n) x e =
      ⊎_elim
      (λ z. let y = something n x z in (y.0, omega (arith, y.1), y.2, y.3))
      (λ z. (n, omega arith, z.1, nothing n z.0))
      (else_some (first_found f n) (f n) x e)

  pub one_found : (n : ℕ) (x : A)
      → (first_found f n ≡ some x) ↔ ((i : ℕ) × (i < n) × (f i ≡ some x) × ((j : ℕ) → j < i → f j ≡ none))
  one_found n x = (something n x, λ y. first_here n y.0 x y.1 (no_one y.0 y.3) y.2)

pub first-same : {A : Type 0} (f g : ℕ → Option A) (n : ℕ) → ((i : ℕ) → i < n → f i ≡ g i) → first_found f n ≡ first_found g n
unfolding first_found
first-same f g zero h = refl
first-same f g (suc n) h = rw (first-same f g n (λ i l. h i (omega arith)), h n (omega arith))
