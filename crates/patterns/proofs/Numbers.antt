-- The places of a pattern's letters as numbers, and the masks of specs/Positions.antt by places: a
-- number is in a mask exactly where a place with that number is in the set. Assumes nothing.
--
--   number p o x           the number of place x, where the letters are numbered from o + 1 on
--   above, within, same_place   it is one of them, and of no other place
--   Place, Pair            a place, or two, one after the other, with their numbers
--   first_of, last_of, positions_of_lem, follow_of_lem  from a mask to a place
--   in_first_lem, in_last, in_positions, in_follow  from a place to the mask
use mathlib.Core.Path.{◌≡◌, refl, sym, ap}
use mathlib.Core.Logic.{inl, inr, ⊎_elim}
use mathlib.Core.Bool.{Bool, true, false, cond}
use Prim.Native.Nat.{ℕ, suc, ◌+◌, ◌≤◌, ◌<◌}
use native.Mathlib.Omega.{arith}
use lib.Bits.{bit_or}
use lib.Dec.{eqb}
use borrow.Author.Tests.{eq-eqb, eqb-true}
use Rattle.masks.specs.Masks.{◌∈◌, has, single}
use Rattle.masks.proofs.Laws.{no_member, has_member, member_of, or_cases, or_left, or_right, single_law}
use Rattle.patterns.specs.Patterns.{Pattern, empty, letter, then, or, star, count}
use Rattle.patterns.specs.Positions.{nullable, first, last, follow, positions_of}
use Rattle.patterns.proofs.Theory.{Position, letter_at, First, Last, Follow}

abbrev pub number : (p : Pattern) → ℕ → Position p → ℕ
number empty o x = absurd x
number (letter s) o x = suc o
number (then p q) o (inl x) = number p o x
number (then p q) o (inr y) = number q (o + count p) y
number (or p q) o (inl x) = number p o x
number (or p q) o (inr y) = number q (o + count p) y
number (star p) o x = number p o x

pub above : (p : Pattern) (o : ℕ) (x : Position p) → o < number p o x
above empty o x = absurd x
above (letter s) o x = omega arith
above (then p q) o (inl x) = above p o x
above (then p q) o (inr y) = omega (arith, above q (o + count p) y)
above (or p q) o (inl x) = above p o x
above (or p q) o (inr y) = omega (arith, above q (o + count p) y)
above (star p) o x = above p o x

pub within : (p : Pattern) (o : ℕ) (x : Position p) → number p o x ≤ o + count p
within empty o x = absurd x
within (letter s) o x = omega arith
within (then p q) o (inl x) = omega (arith, within p o x)
within (then p q) o (inr y) = omega (arith, within q (o + count p) y)
within (or p q) o (inl x) = omega (arith, within p o x)
within (or p q) o (inr y) = omega (arith, within q (o + count p) y)
within (star p) o x = within p o x

apart : (p q : Pattern) (o : ℕ) (x : Position p) (y : Position q) → number p o x ≡ number q (o + count p) y → ⊥
apart p q o x y e = omega (arith, within p o x, above q (o + count p) y)

pub same_place : (p : Pattern) (o : ℕ) (x y : Position p) → number p o x ≡ number p o y → x ≡ y
same_place empty o x y e = absurd x
same_place (letter s) o x y e = refl
same_place (then p q) o (inl x) (inl y) e = ap inl (same_place p o x y e)
same_place (then p q) o (inl x) (inr y) e = absurd (apart p q o x y e)
same_place (then p q) o (inr x) (inl y) e = absurd (apart p q o y x (sym e))
same_place (then p q) o (inr x) (inr y) e = ap inr (same_place q (o + count p) x y e)
same_place (or p q) o (inl x) (inl y) e = ap inl (same_place p o x y e)
same_place (or p q) o (inl x) (inr y) e = absurd (apart p q o x y e)
same_place (or p q) o (inr x) (inl y) e = absurd (apart p q o y x (sym e))
same_place (or p q) o (inr x) (inr y) e = ap inr (same_place q (o + count p) x y e)
same_place (star p) o x y e = same_place p o x y e

-- ---- a mask under a test
pub in_cond : (b : Bool) (m i : ℕ) → b ≡ true → i ∈ m → i ∈ cond b m 0
in_cond b m i e h = rw e h

pub cond_of : (b : Bool) (m i : ℕ) → i ∈ cond b m 0 → (b ≡ true) × (i ∈ m)
cond_of true m i h = (refl, h)
cond_of false m i h = absurd (no_member i h)

-- ---- places with a number
pub record Place (p : Pattern) (o i : ℕ) (P : Position p → Type 0) : Type 0 where
  pub at : Position p
  pub is : number p o at ≡ i
  pub holds : P at

pub first_of : (p : Pattern) (o i : ℕ) → i ∈ first p o → Place p o i (First p)
first_of empty o i h = absurd (no_member i h)
first_of (letter s) o i h = record { at = tt; is = sym ((single_law (suc o) i).0 h); holds = tt }
first_of (then p q) o i h =
    ⊎_elim
    (λ l. let r = first_of p o i l in record { at = inl r.at; is = r.is; holds = r.holds })
    (λ l.
    let c = cond_of (nullable p) (first q (o + count p)) i l in
    let r = first_of q (o + count p) i c.1 in
    record { at = inr r.at; is = r.is; holds = (c.0, r.holds) })
    (or_cases (first p o) (cond (nullable p) (first q (o + count p)) 0) i h)
first_of (or p q) o i h =
    ⊎_elim
    (λ l. let r = first_of p o i l in record { at = inl r.at; is = r.is; holds = r.holds })
    (λ l. let r = first_of q (o + count p) i l in record { at = inr r.at; is = r.is; holds = r.holds })
    (or_cases (first p o) (first q (o + count p)) i h)
first_of (star p) o i h = let r = first_of p o i h in record { at = r.at; is = r.is; holds = r.holds }

pub in_first_lem : (p : Pattern) (o : ℕ) (x : Position p) → First p x → number p o x ∈ first p o
in_first_lem empty o x h = absurd x
in_first_lem (letter s) o x h = (single_law (suc o) (suc o)).1 refl
in_first_lem (then p q) o (inl x) h = or_left (first p o) (cond (nullable p) (first q (o + count p)) 0) (number p o x) (in_first_lem p o x h)
in_first_lem (then p q) o (inr y) h =
    or_right (first p o) (cond (nullable p) (first q (o + count p)) 0) (number q (o + count p) y)
    (in_cond (nullable p) (first q (o + count p)) (number q (o + count p) y) h.0 (in_first_lem q (o + count p) y h.1))
in_first_lem (or p q) o (inl x) h = or_left (first p o) (first q (o + count p)) (number p o x) (in_first_lem p o x h)
in_first_lem (or p q) o (inr y) h = or_right (first p o) (first q (o + count p)) (number q (o + count p) y) (in_first_lem q (o + count p) y h)
in_first_lem (star p) o x h = in_first_lem p o x h

pub last_of : (p : Pattern) (o i : ℕ) → i ∈ last p o → Place p o i (Last p)
last_of empty o i h = absurd (no_member i h)
last_of (letter s) o i h = record { at = tt; is = sym ((single_law (suc o) i).0 h); holds = tt }
last_of (then p q) o i h =
    ⊎_elim
    (λ l.
    let c = cond_of (nullable q) (last p o) i l in
    let r = last_of p o i c.1 in
    record { at = inl r.at; is = r.is; holds = (c.0, r.holds) })
    (λ l. let r = last_of q (o + count p) i l in record { at = inr r.at; is = r.is; holds = r.holds })
    (or_cases (cond (nullable q) (last p o) 0) (last q (o + count p)) i h)
last_of (or p q) o i h =
    ⊎_elim
    (λ l. let r = last_of p o i l in record { at = inl r.at; is = r.is; holds = r.holds })
    (λ l. let r = last_of q (o + count p) i l in record { at = inr r.at; is = r.is; holds = r.holds })
    (or_cases (last p o) (last q (o + count p)) i h)
last_of (star p) o i h = let r = last_of p o i h in record { at = r.at; is = r.is; holds = r.holds }

pub in_last : (p : Pattern) (o : ℕ) (x : Position p) → Last p x → number p o x ∈ last p o
in_last empty o x h = absurd x
in_last (letter s) o x h = (single_law (suc o) (suc o)).1 refl
in_last (then p q) o (inl x) h =
    or_left (cond (nullable q) (last p o) 0) (last q (o + count p)) (number p o x)
    (in_cond (nullable q) (last p o) (number p o x) h.0 (in_last p o x h.1))
in_last (then p q) o (inr y) h =
    or_right (cond (nullable q) (last p o) 0) (last q (o + count p)) (number q (o + count p) y) (in_last q (o + count p) y h)
in_last (or p q) o (inl x) h = or_left (last p o) (last q (o + count p)) (number p o x) (in_last p o x h)
in_last (or p q) o (inr y) h = or_right (last p o) (last q (o + count p)) (number q (o + count p) y) (in_last q (o + count p) y h)
in_last (star p) o x h = in_last p o x h

pub positions_of_lem : (p : Pattern) (o s i : ℕ) → i ∈ positions_of p o s → Place p o i (λ x. letter_at p x ≡ s)
positions_of_lem empty o s i h = absurd (no_member i h)
positions_of_lem (letter a) o s i h =
    let c = cond_of (eqb a s) (single (suc o)) i h in
    record { at = tt; is = sym ((single_law (suc o) i).0 c.1); holds = eqb-true a s c.0 }
positions_of_lem (then p q) o s i h =
    ⊎_elim
    (λ l. let r = positions_of_lem p o s i l in record { at = inl r.at; is = r.is; holds = r.holds })
    (λ l. let r = positions_of_lem q (o + count p) s i l in record { at = inr r.at; is = r.is; holds = r.holds })
    (or_cases (positions_of p o s) (positions_of q (o + count p) s) i h)
positions_of_lem (or p q) o s i h =
    ⊎_elim
    (λ l. let r = positions_of_lem p o s i l in record { at = inl r.at; is = r.is; holds = r.holds })
    (λ l. let r = positions_of_lem q (o + count p) s i l in record { at = inr r.at; is = r.is; holds = r.holds })
    (or_cases (positions_of p o s) (positions_of q (o + count p) s) i h)
positions_of_lem (star p) o s i h = let r = positions_of_lem p o s i h in record { at = r.at; is = r.is; holds = r.holds }

pub in_positions : (p : Pattern) (o : ℕ) (x : Position p) → number p o x ∈ positions_of p o (letter_at p x)
in_positions empty o x = absurd x
in_positions (letter a) o x = in_cond (eqb a a) (single (suc o)) (suc o) (eq-eqb a a refl) ((single_law (suc o) (suc o)).1 refl)
in_positions (then p q) o (inl x) = or_left (positions_of p o (letter_at p x)) (positions_of q (o + count p) (letter_at p x)) (number p o x) (in_positions p o x)
in_positions (then p q) o (inr y) =
    or_right (positions_of p o (letter_at q y)) (positions_of q (o + count p) (letter_at q y)) (number q (o + count p) y) (in_positions q (o + count p) y)
in_positions (or p q) o (inl x) = or_left (positions_of p o (letter_at p x)) (positions_of q (o + count p) (letter_at p x)) (number p o x) (in_positions p o x)
in_positions (or p q) o (inr y) =
    or_right (positions_of p o (letter_at q y)) (positions_of q (o + count p) (letter_at q y)) (number q (o + count p) y) (in_positions q (o + count p) y)
in_positions (star p) o x = in_positions p o x

-- ---- two places, one after the other
pub record Pair (p : Pattern) (o i j : ℕ) : Type 0 where
  pub source : Position p
  pub target : Position p
  pub from : number p o source ≡ i
  pub to : number p o target ≡ j
  pub follows : Follow p source target

-- what the test of a link says
link_of : (p q : Pattern) (o m i j : ℕ) → j ∈ cond (has (last p o) i) (first q m) 0 → Place p o i (Last p) × Place q m j (First q)
link_of p q o m i j h =
    let c = cond_of (has (last p o) i) (first q m) j h in
    (last_of p o i (member_of (last p o) i c.0), first_of q m j c.1)

in_link : (p q : Pattern) (o m : ℕ) (x : Position p) (y : Position q) → Last p x → First q y
    → number q m y ∈ cond (has (last p o) (number p o x)) (first q m) 0
in_link p q o m x y l f =
    in_cond (has (last p o) (number p o x)) (first q m) (number q m y) (has_member (last p o) (number p o x) (in_last p o x l)) (in_first_lem q m y f)

pub follow_of_lem : (p : Pattern) (o i j : ℕ) → j ∈ follow p o i → Pair p o i j
follow_of_lem empty o i j h = absurd (no_member j h)
follow_of_lem (letter s) o i j h = absurd (no_member j h)
follow_of_lem (then p q) o i j h =
    ⊎_elim
    (λ k.
    ⊎_elim
    (λ l. let r = follow_of_lem p o i j l in record { source = inl r.source; target = inl r.target; from = r.from; to = r.to; follows = r.follows })
    (λ l.
    let r = follow_of_lem q (o + count p) i j l in
    record { source = inr r.source; target = inr r.target; from = r.from; to = r.to; follows = r.follows })
    (or_cases (follow p o i) (follow q (o + count p) i) j k))
    (λ l.
    let r = link_of p q o (o + count p) i j l in
    record { source = inl r.0.at; target = inr r.1.at; from = r.0.is; to = r.1.is; follows = (r.0.holds, r.1.holds) })
    (or_cases (bit_or (follow p o i) (follow q (o + count p) i)) (cond (has (last p o) i) (first q (o + count p)) 0) j h)
follow_of_lem (or p q) o i j h =
    ⊎_elim
    (λ l. let r = follow_of_lem p o i j l in record { source = inl r.source; target = inl r.target; from = r.from; to = r.to; follows = r.follows })
    (λ l.
    let r = follow_of_lem q (o + count p) i j l in
    record { source = inr r.source; target = inr r.target; from = r.from; to = r.to; follows = r.follows })
    (or_cases (follow p o i) (follow q (o + count p) i) j h)
follow_of_lem (star p) o i j h =
    ⊎_elim
    (λ l. let r = follow_of_lem p o i j l in record { source = r.source; target = r.target; from = r.from; to = r.to; follows = inl r.follows })
    (λ l.
    let r = link_of p p o o i j l in
    record { source = r.0.at; target = r.1.at; from = r.0.is; to = r.1.is; follows = inr (r.0.holds, r.1.holds) })
    (or_cases (follow p o i) (cond (has (last p o) i) (first p o) 0) j h)

-- the members of a union of three
module _ (a b c i : ℕ) where
  in-1 : i ∈ a → i ∈ bit_or (bit_or a b) c
  in-1 h = or_left (bit_or a b) c i (or_left a b i h)

  in-2 : i ∈ b → i ∈ bit_or (bit_or a b) c
  in-2 h = or_left (bit_or a b) c i (or_right a b i h)

pub in_follow : (p : Pattern) (o : ℕ) (x y : Position p) → Follow p x y → number p o y ∈ follow p o (number p o x)
in_follow empty o x y h = absurd x
in_follow (letter s) o x y h = absurd h
in_follow (then p q) o (inl x) (inl y) h =
    let i = number p o x in
    in-1 (follow p o i) (follow q (o + count p) i) (cond (has (last p o) i) (first q (o + count p)) 0) (number p o y) (in_follow p o x y h)
in_follow (then p q) o (inl x) (inr y) h =
    let i = number p o x in
    or_right (bit_or (follow p o i) (follow q (o + count p) i)) (cond (has (last p o) i) (first q (o + count p)) 0) (number q (o + count p) y)
    (in_link p q o (o + count p) x y h.0 h.1)
in_follow (then p q) o (inr x) (inl y) h = absurd h
in_follow (then p q) o (inr x) (inr y) h =
    let i = number q (o + count p) x in
    in-2 (follow p o i) (follow q (o + count p) i) (cond (has (last p o) i) (first q (o + count p)) 0) (number q (o + count p) y)
    (in_follow q (o + count p) x y h)
in_follow (or p q) o (inl x) (inl y) h =
    or_left (follow p o (number p o x)) (follow q (o + count p) (number p o x)) (number p o y) (in_follow p o x y h)
in_follow (or p q) o (inl x) (inr y) h = absurd h
in_follow (or p q) o (inr x) (inl y) h = absurd h
in_follow (or p q) o (inr x) (inr y) h =
    let i = number q (o + count p) x in
    or_right (follow p o i) (follow q (o + count p) i) (number q (o + count p) y) (in_follow q (o + count p) x y h)
in_follow (star p) o x y (inl h) =
    let i = number p o x in
    or_left (follow p o i) (cond (has (last p o) i) (first p o) 0) (number p o y) (in_follow p o x y h)
in_follow (star p) o x y (inr h) =
    let i = number p o x in
    or_right (follow p o i) (cond (has (last p o) i) (first p o) 0) (number p o y) (in_link p p o o x y h.0 h.1)
