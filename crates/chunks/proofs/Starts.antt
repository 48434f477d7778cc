-- The laws of the starts, of the delegates of a set and of a place's starts: one state more, the
-- members, and that what the code takes for them is what they are. Assumes nothing.
use mathlib.Core.Path.{◌≡◌, refl, sym, ap, ◌∙◌}
use mathlib.Core.Logic.{◌↔◌, ⊎_elim}
use mathlib.Core.Bool.{Bool, true, false, cond}
use mathlib.Core.List.{List}
use mathlib.Core.Option.{Option, none, some}
use Prim.Native.Nat.{ℕ, zero, suc, ◌+◌, ◌≤◌, ◌<◌, min}
use native.Mathlib.Nat.{eq-or-lt_of_le, le_of_suc-le-suc}
use native.Mathlib.Numerals.{add-one}
use native.Mathlib.Omega.{arith}
use borrow.Author.Tests.{eq-eqb, ne_eqb, eqb-true}
use lib.Bits.{bit_or, or_zero_r}
use lib.Dec.{eqb}
use lib.ListN.{get_or}
use Rattle.base.proofs.Tests.{zero_one}
use Rattle.masks.specs.Masks.{◌∈◌, single}
use Rattle.masks.proofs.Laws.{no_member, or_cases, or_left, or_right, single_law, part_of, in_union}
use Rattle.delegates.specs.Alike.{delegate_in, of_delegate, start_set}
use Rattle.delegates.proofs.Alike.{said_some, some_said}
use Rattle.chunks.specs.Chunks.{delegate_set, run_set}
use Rattle.chunks.specs.mirror.Walks.{delegate_mask, run_mask}

-- ---- one state more
module _ (d : List ℕ) (q : ℕ) where
  pub start_more : get_or d q 0 ≡ q → bit_or (start_set d q) (single q) ≡ start_set d (q + 1)
  unfolding start_set
  start_more e = rw (add-one, eq-eqb (get_or d q 0) q e)

  pub start_other : (get_or d q 0 ≡ q → ⊥) → start_set d q ≡ start_set d (q + 1)
  unfolding start_set
  start_other ne = rw (add-one, ne_eqb (get_or d q 0) q ne, or_zero_r)

-- ---- the states that a place is run from, for any delegates
module _ (d : List ℕ) (n m place : ℕ) where
  pub run_first : place ≡ 0 → delegate_mask d n m ≡ run_mask d n m place
  run_first e = ap (run_mask d n m) (sym e)

  pub run_later : (place ≡ 0 → ⊥) → start_set d (min n 32) ≡ run_mask d n m place
  run_later ne = later place ne
    where
      later : (p : ℕ) → (p ≡ 0 → ⊥) → start_set d (min n 32) ≡ run_mask d n m p
      later zero x = absurd (x refl)
      later (suc p) x = refl

-- ---- the members
start_of : (d : List ℕ) (n q : ℕ) → q ∈ start_set d n → (q < n) × (get_or d q 0 ≡ q)
unfolding start_set
start_of d zero q e = absurd (no_member q e)
start_of d (suc p) q e =
    ⊎_elim
    (λ h. let r = start_of d p q h in (omega (arith, r.0), r.1))
    (λ h. own (eqb (get_or d p 0) p) refl h)
    (or_cases (start_set d p) (cond (eqb (get_or d p 0) p) (single p) 0) q e)
  where
    own : (t : Bool) → eqb (get_or d p 0) p ≡ t → q ∈ cond t (single p) 0 → (q < suc p) × (get_or d q 0 ≡ q)
    own true t h =
        let s : q ≡ p = (single_law p q).0 h in
        (omega arith, rw s (eqb-true (get_or d p 0) p t))
    own false t h = absurd (no_member q h)

in_starts : (d : List ℕ) (n q : ℕ) → q < n → get_or d q 0 ≡ q → q ∈ start_set d n
unfolding start_set
in_starts d zero q h e = absurd (let x = h in omega arith)
in_starts d (suc p) q h e =
    ⊎_elim
    (λ s. or_right (start_set d p) (cond (eqb (get_or d p 0) p) (single p) 0) q (rw (← s) (rw (eq-eqb (get_or d q 0) q e) ((single_law q q).1 refl))))
    (λ l. or_left (start_set d p) (cond (eqb (get_or d p 0) p) (single p) 0) q (in_starts d p q l e))
    (eq-or-lt_of_le (le_of_suc-le-suc h))

pub start_law : (d : List ℕ) (n q : ℕ) → q ∈ start_set d n ↔ (q < n) × (get_or d q 0 ≡ q)
start_law d n q = (start_of d n q, λ r. in_starts d n q r.0 r.1)

pub start_own : (d : List ℕ) (n q : ℕ) → n ≤ 32 → q ∈ start_set d n ↔ (q < n) × (delegate_in d q ≡ some q)
start_own d n q few = (
  (λ i.
      let u = start_of d n q i in
      let z = u.1 in
      let low : get_or d q 0 < 32 = omega (arith, u.0) in
      (u.0, said_some d q low ∙ ap some z)),
  λ u. in_starts d n q u.0 (some_said d q q u.1).0,
)

-- the member of a delegate's set is the delegate
only_delegate : (o : Option ℕ) (p : ℕ) → p ∈ of_delegate single o ↔ o ≡ some p
only_delegate none p = (λ i. absurd (no_member p i), λ e. zero_one cc)
only_delegate (some x) p = (
  (λ i. ap some (sym ((single_law x p).0 i))),
  λ e. let z : p ≡ x = cc in (single_law x p).1 z,
)

pub delegate_law : (d : List ℕ) (n m p : ℕ) → p ∈ delegate_set d n m ↔ (q : ℕ) × (q < n) × (q ∈ m) × (delegate_in d q ≡ some p)
delegate_law d n m p = (
  (λ e.
      let u = part_of (λ q. of_delegate single (delegate_in d q)) m p n e in
      (u.from, u.below, u.member, (only_delegate (delegate_in d u.from) p).0 u.there)),
  λ u. in_union (λ q. of_delegate single (delegate_in d q)) m p n u.0 u.1 u.2 ((only_delegate (delegate_in d u.0) p).1 u.3),
)

-- ---- at most 32 states
module _ (d : List ℕ) (n m : ℕ) (few : n ≤ 32) where
  pub delegate_mask_lem : delegate_mask d n m ≡ delegate_set d n m
  delegate_mask_lem = let e : min n 32 ≡ n = omega arith in ap (λ (x : ℕ). delegate_set d x m) e

  pub run_mask_lem : (place : ℕ) → run_mask d n m place ≡ run_set d n m place
  run_mask_lem place = let e : min n 32 ≡ n = omega arith in ap (λ (x : ℕ). run_set d x m place) e
