-- The laws of the numbers that a list of keys gives: a key's number is the place where it first
-- stands; a key keeps its number where the list goes on; `numbered` only appends, and gives a key
-- that is not left out a number. Assumes nothing.
--
--   Has l m                the key m has a number in the list l
--   number_at, first-at    the key with a number stands at it; a key that stands somewhere has one
--   begins-..              what a list that begins another has in common with it
--   numbered-..            what a key's turn does to the list
use mathlib.Core.Path.{◌≡◌, refl, sym, ap, ◌∙◌, subst}
use mathlib.Core.Bool.{Bool, true, false, cond}
use mathlib.Core.List.{List, [], ◌∷◌, ◌++◌, append_assoc, append-nil}
use Prim.Native.Nat.{ℕ, zero, suc, ◌≤◌, ◌<◌}
use native.Mathlib.Omega.{arith}
use lib.Dec.{eqb, ltb}
use lib.ListN.{length, get_or, length-append, get_or-append}
use lib.Seq.{get_or-append_seam}
use borrow.Author.Tests.{eq-eqb, lt-ltb, le-ltb, eqb-true, ltb-true, ltb-false}
use Rattle.base.proofs.Tests.{by_test, not_both}
use Rattle.numbering.specs.Numbering.{index_of, numbered}
use Rattle.numbering.specs.mirror.Begins.{Begins}

abbrev pub Has : List ℕ → ℕ → Type 0
Has l m = index_of l m < length l

-- ---- a key's number
pub number_le : (l : List ℕ) (m : ℕ) → index_of l m ≤ length l
unfolding index_of
number_le [] m = omega arith
number_le (x ∷ l) m = go (eqb x m) (number_le l m)
  where
    go : (b : Bool) → index_of l m ≤ length l → cond b 0 (suc (index_of l m)) ≤ suc (length l)
    go true h = omega arith
    go false h = omega arith

pub number_at : (l : List ℕ) (m : ℕ) → Has l m → get_or l (index_of l m) 0 ≡ m
unfolding index_of
number_at [] m h = absurd (omega arith)
number_at (x ∷ l) m h = go (eqb x m) refl h (number_at l m)
  where
    go : (b : Bool) → eqb x m ≡ b → cond b 0 (suc (index_of l m)) < suc (length l) → (index_of l m < length l → get_or l (index_of l m) 0 ≡ m)
        → get_or (x ∷ l) (cond b 0 (suc (index_of l m))) 0 ≡ m
    go true e a ih = eqb-true x m e
    go false e a ih = ih (omega arith)

-- a key that stands at j has a number, which is at most j
pub first-at : (l : List ℕ) (m j : ℕ) → j < length l → get_or l j 0 ≡ m → index_of l m ≤ j
unfolding index_of
first-at [] m j h e = absurd (omega arith)
first-at (x ∷ l) m zero h e = rw (eq-eqb x m e) (omega arith)
first-at (x ∷ l) m (suc j) h e = go (eqb x m) (first-at l m j (omega arith) e)
  where
    go : (b : Bool) → index_of l m ≤ j → cond b 0 (suc (index_of l m)) ≤ suc j
    go true a = omega arith
    go false a = omega arith

pub stands : (l : List ℕ) (m j : ℕ) → j < length l → get_or l j 0 ≡ m → Has l m
stands l m j h e = omega (arith, first-at l m j h e)

-- a key that stands nowhere has none
pub nowhere : (l : List ℕ) (m : ℕ) → ((j : ℕ) → j < length l → get_or l j 0 ≡ m → ⊥) → length l ≤ index_of l m
nowhere l m h =
    by_test (ltb (index_of l m) (length l))
    (λ t. let b = ltb-true (index_of l m) (length l) t in absurd (h (index_of l m) b (number_at l m b)))
    (ltb-false (index_of l m) (length l))

-- the number is the first place
pub number_is : (l : List ℕ) (m i : ℕ) → i < length l → get_or l i 0 ≡ m → ((j : ℕ) → j < i → get_or l j 0 ≡ m → ⊥) → index_of l m ≡ i
number_is l m i b e h =
    let low = first-at l m i b e in
    by_test (ltb (index_of l m) i)
    (λ t. let c = ltb-true (index_of l m) i t in absurd (h (index_of l m) c (number_at l m (omega arith))))
    (λ t. omega (arith, ltb-false (index_of l m) i t))

number_more : (l r : List ℕ) (m : ℕ) → Has l m → index_of (l ++ r) m ≡ index_of l m
unfolding index_of
number_more [] r m h = absurd (omega arith)
number_more (x ∷ l) r m h = go (eqb x m) h (number_more l r m)
  where
    go : (b : Bool) → cond b 0 (suc (index_of l m)) < suc (length l) → (index_of l m < length l → index_of (l ++ r) m ≡ index_of l m)
        → cond b 0 (suc (index_of (l ++ r) m)) ≡ cond b 0 (suc (index_of l m))
    go true a ih = refl
    go false a ih = ap suc (ih (omega arith))

-- ---- a list that goes on
pub begins_self : (l : List ℕ) → Begins l l
begins_self l = record { rest = []; is = sym (append-nil l) }

pub begins_trans : {a b c : List ℕ} → Begins a b → Begins b c → Begins a c
begins_trans {a} p q = record {
  rest = p.rest ++ q.rest;
  is = q.is ∙ ap (λ (x : List ℕ). x ++ q.rest) p.is ∙ append_assoc a p.rest q.rest;
}

module _ {l f : List ℕ} (b : Begins l f) where
  pub begins_length : length l ≤ length f
  begins_length = omega (arith, ap length b.is, length-append l b.rest)

  pub begins_at : (j : ℕ) → j < length l → get_or f j 0 ≡ get_or l j 0
  begins_at j h = ap (λ (x : List ℕ). get_or x j 0) b.is ∙ get_or-append l b.rest 0 j h

  pub begins_number : (m : ℕ) → Has l m → index_of f m ≡ index_of l m
  begins_number m h = ap (λ (x : List ℕ). index_of x m) b.is ∙ number_more l b.rest m h

  pub begins_has : (m : ℕ) → Has l m → Has f m
  begins_has m h = omega (arith, begins_number m h, begins_length)

-- ---- a key's turn
-- the key that takes a number takes the next one
pub number_taken : (l : List ℕ) (m : ℕ) → length l ≤ index_of l m → index_of (l ++ (m ∷ [])) m ≡ length l
number_taken l m h =
    number_is (l ++ (m ∷ [])) m (length l) (rw length-append (omega arith)) (get_or-append_seam l m [] 0)
    (λ j b e. let old : Has l m = stands l m j b (sym (get_or-append l (m ∷ []) 0 j b) ∙ e) in omega arith)

module _ (skips : ℕ → Bool) (l : List ℕ) (m : ℕ) where
  pub numbered_skipped : skips m ≡ true → numbered skips l m ≡ l
  unfolding numbered
  numbered_skipped z = rw z

  pub numbered_kept : skips m ≡ false → Has l m → numbered skips l m ≡ l
  unfolding numbered
  numbered_kept ne h = rw (ne, lt-ltb (index_of l m) (length l) h)

  pub numbered_taken : skips m ≡ false → length l ≤ index_of l m → numbered skips l m ≡ l ++ (m ∷ [])
  unfolding numbered
  numbered_taken ne h = rw (ne, le-ltb (index_of l m) (length l) h)

  -- the three cases
  pub by_turn : (P : List ℕ → Type 0) → (skips m ≡ true → P l) → (skips m ≡ false → Has l m → P l)
      → (skips m ≡ false → length l ≤ index_of l m → P (l ++ (m ∷ []))) → P (numbered skips l m)
  by_turn P empty kept taken =
      by_test (skips m)
      (λ z. subst P (sym (numbered_skipped z)) (empty z))
      (λ ne.
      by_test (ltb (index_of l m) (length l))
      (λ t. let h = ltb-true (index_of l m) (length l) t in subst P (sym (numbered_kept ne h)) (kept ne h))
      (λ t. let h = ltb-false (index_of l m) (length l) t in subst P (sym (numbered_taken ne h)) (taken ne h)))

  pub numbered_begins : Begins l (numbered skips l m)
  numbered_begins =
      by_turn (Begins l) (λ z. begins_self l) (λ ne h. begins_self l) (λ ne h. record { rest = m ∷ []; is = refl })

  pub numbered_has : skips m ≡ false → Has (numbered skips l m) m
  numbered_has ne =
      by_turn (λ x. Has x m)
      (λ z. not_both z ne)
      (λ _ h. h)
      (λ _ h. let e = number_taken l m h in rw length-append (omega arith))
