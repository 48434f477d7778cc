-- Tests, the answer of a test as what it decides, and the first number that passes one. Assumes
-- nothing.
--
--   Least R lo s u   u is the lowest number from lo on that R relates to s, and is at most s
--   first-..         a loop that searches from lo up to n, one number at a time
use mathlib.Core.Path.{◌≡◌, refl, sym, ap, ◌∙◌}
use mathlib.Core.Logic.{◌↔◌, ⊎_elim}
use mathlib.Core.Bool.{Bool, true, false, not, ◌&&◌, beq, true≢false, false≢true, and-eq-true_iff, and-true, and-false}
use Prim.Native.Nat.{ℕ, zero, suc, ◌+◌, ◌-◌, ◌≤◌, ◌<◌}
use native.Mathlib.Nat.{le_antisymm, eq-or-lt_of_le}
use native.Mathlib.Numerals.{add-one}
use native.Mathlib.Omega.{arith}
use borrow.Author.Count.{below_none, below_more}
use borrow.Author.Tests.{leb-true, leb-false}
use lib.Dec.{leb}
use Rattle.base.proofs.Tests.{by_test}
use Rattle.delegates.specs.mirror.Classes.{every, first_from}

pub record Least (R : ℕ → ℕ → Type 0) (lo s u : ℕ) : Type 0 where
  pub from : lo ≤ u
  pub most : u ≤ s
  pub has : R u s
  pub first : (v : ℕ) → lo ≤ v → v < u → R v s → ⊥

-- the answer of a test that decides P
module _ {P : Type 0} {b : Bool} (law : (b ≡ true) ↔ P) where
  pub confirmed : P → true ≡ b
  confirmed p = sym (law.1 p)

  pub refuted : (P → ⊥) → false ≡ b
  refuted n = by_test b (λ t. absurd (n (law.0 t))) sym

pub differ : (a b : Bool) → not (beq a b) ≡ true → a ≡ b → ⊥
differ true true t e = false≢true t
differ true false t e = true≢false e
differ false true t e = false≢true e
differ false false t e = false≢true t

pub agree : (a b : Bool) → not (beq a b) ≡ false → a ≡ b
agree true true t = refl
agree true false t = absurd (true≢false t)
agree false true t = absurd (true≢false t)
agree false false t = refl

pub le_by : (a b : ℕ) → (b < a → ⊥) → a ≤ b
le_by a b h = by_test (leb a b) (leb-true a b) (λ f. absurd (h (leb-false a b f)))

pub equal : (a b : Bool) → (beq a b ≡ true) ↔ (a ≡ b)
equal true true = (λ e. refl, λ e. refl)
equal true false = (λ e. absurd (false≢true e), λ e. absurd (true≢false e))
equal false true = (λ e. absurd (false≢true e), λ e. absurd (false≢true e))
equal false false = (λ e. refl, λ e. refl)

pub every_law : (n : ℕ) (t : ℕ → Bool) → (every n t ≡ true) ↔ ((a : ℕ) → a < n → t a ≡ true)
unfolding every
every_law zero t = (λ e. below_none _, λ h. refl)
every_law (suc n) t = (
  (λ e a l. let x = (and-eq-true_iff (every n t) (t n)).0 e in below_more (λ b. t b ≡ true) n ((every_law n t).0 x.0) x.1 a (omega arith)),
  λ h. (and-eq-true_iff (every n t) (t n)).1 ((every_law n t).1 (λ a l. h a (omega arith)), h n (omega arith)),
)

-- a test that not all pass fails somewhere
pub fails : (n : ℕ) (t : ℕ → Bool) → every n t ≡ false → (a : ℕ) × (a < n) × (t a ≡ false)
unfolding every
fails zero t e = absurd (true≢false e)
fails (suc n) t e = one (fails n t) (every n t) refl e
  where
    one : (every n t ≡ false → (a : ℕ) × (a < n) × (t a ≡ false)) → (b : Bool) → every n t ≡ b → b && t n ≡ false
        → (a : ℕ) × (a < suc n) × (t a ≡ false)
    one before true z e = (n, omega arith, e)
    one before false z e = let u = before z in (u.0, omega (arith, u.1), u.2)

-- one number more passes, or does not
module _ (t : ℕ → Bool) (n : ℕ) where
  pub every_more : t n ≡ true → every n t ≡ every (n + 1) t
  unfolding every
  every_more e = rw (add-one, e) (sym (and-true (every n t)))

  pub every_fails : t n ≡ false → true ≡ not (every (n + 1) t)
  unfolding every
  every_fails e = rw (add-one, e, and-false (every n t))

-- a search, number by number
module _ (t : ℕ → Bool) (lo n : ℕ) where
  pub first_here : lo < n → t lo ≡ true → lo ≡ first_from t lo (n - lo)
  unfolding first_from
  first_here h e = let more : n - lo ≡ suc (n - suc lo) = omega arith in rw (more, e)

  pub first_past : lo < n → t lo ≡ false → first_from t lo (n - lo) ≡ first_from t (lo + 1) (n - (lo + 1))
  unfolding first_from
  first_past h e = let more : n - lo ≡ suc (n - suc lo) = omega arith in rw (more, e, add-one)

  pub first_end : n ≤ lo → lo ≡ first_from t lo (n - lo)
  unfolding first_from
  first_end h = let none : n - lo ≡ 0 = omega arith in rw none

-- two tests that agree find the same
pub first-same : (t u : ℕ → Bool) (lo f : ℕ) → ((p : ℕ) → p < lo + f → t p ≡ u p) → first_from t lo f ≡ first_from u lo f
unfolding first_from
first-same t u lo zero same = refl
first-same t u lo (suc f) same =
    rw (same lo (omega arith), first-same t u (suc lo) f (λ p l. same p (omega arith)))

-- a search finds the lowest number that passes
pub found : (t : ℕ → Bool) (lo f s : ℕ) → lo + f ≡ s → t s ≡ true → Least (λ p _. t p ≡ true) lo s (first_from t lo f)
unfolding first_from
found t lo zero s e h =
    let l : s ≡ lo = omega arith in
    record { from = omega arith; most = omega arith; has = rw (← l) h; first = λ v a b y. omega arith }
found t lo (suc f) s e h = go (found t (suc lo) f s (omega arith) h)
  where
    go : Least (λ p _. t p ≡ true) (suc lo) s (first_from t (suc lo) f) → Least (λ p _. t p ≡ true) lo s (first_from t lo (suc f))
    go r =
        by_test (t lo)
        (λ x. rw x (record { from = omega arith; most = omega arith; has = x; first = λ v a b y. omega arith }))
        (λ x.
        rw x (record {
          from = omega (arith, r.from);
          most = r.most;
          has = r.has;
          first = λ v a b y. ⊎_elim (λ z. false≢true (sym x ∙ ap t z ∙ y)) (λ m. r.first v m b y) (eq-or-lt_of_le a);
        }))

-- two relations that agree have the same lowest numbers, and there is one
pub least_by : (R S : ℕ → ℕ → Type 0) (lo s u : ℕ) → ((t : ℕ) → t ≤ s → R t s ↔ S t s) → Least R lo s u → Least S lo s u
least_by R S lo s u same x =
    let m = x.most in
    record { from = x.from; most = m; has = (same u m).0 x.has; first = λ v a b y. x.first v a b ((same v (omega arith)).1 y) }

pub one_least : (R : ℕ → ℕ → Type 0) (lo s u v : ℕ) → Least R lo s u → Least R lo s v → u ≡ v
one_least R lo s u v a b = le_antisymm (le_by u v (λ l. a.first v b.from l b.has)) (le_by v u (λ l. b.first u a.from l a.has))
