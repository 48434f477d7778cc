-- The fewest starts: specs/Fewest.antt proved. Assumes nothing.
--
-- Each start is live, so a choice has a member alike to it; two starts with the same one would be
-- alike, and so have the same delegate, which is each of them. So the starts are at most as many as
-- the places of the choice.
use mathlib.Core.Path.{◌≡◌, refl, sym, ap, ◌∙◌, subst}
use mathlib.Core.Logic.{◌↔◌}
use mathlib.Core.Bool.{Bool, true, false, cond}
use mathlib.Core.List.{List, ◌∷◌}
use mathlib.Core.Option.{Option, none, some}
use Prim.Native.Nat.{ℕ, zero, suc, ◌+◌, ◌≤◌, ◌<◌, suc-le-suc, zero-le}
use native.Mathlib.Omega.{arith}
use borrow.Author.Tests.{eq-eqb, eqb-true, eqb-false}
use lib.Dec.{eqb}
use lib.ListN.{length, get_or, get_or-eq_default}
use Rattle.base.proofs.Tests.{by_test, not_both}
use Rattle.automaton.specs.Automaton.{Automaton}
use Rattle.numbering.specs.Claims.{Distinct}
use Rattle.numbering.proofs.Pigeonhole.{pigeonhole}
use Rattle.delegates.specs.Alike.{Alike, Delegate, delegate_cell, start_count, Merged}
use Rattle.delegates.specs.Fewest.{Covers, start_list, FewestClaims}
use Rattle.delegates.proofs.Alike.{alike_back, alike_on, one_delegate, same_delegate, own_delegate}

-- numbers that there are below n are values of a function
chosen : (P : ℕ → ℕ → Type 0) (n : ℕ) → ((i : ℕ) → i < n → (j : ℕ) × P i j) → (f : ℕ → ℕ) × ((i : ℕ) → i < n → P i (f i))
chosen P zero h = (λ i. i, λ i l. absurd (omega arith))
chosen P (suc n) h =
    let before = chosen P n (λ i l. h i (omega arith)) in
    let last = h n (omega arith) in (
      (λ i. cond (eqb i n) last.0 (before.0 i)),
      λ i l.
          by_test (eqb i n)
          (λ t. rw t (subst (λ (x : ℕ). P x last.0) (sym (eqb-true i n t)) last.1))
          (λ t. rw t (let ne = eqb-false i n t in before.1 i (omega arith))),
    )

-- ---- the list of the starts
abbrev Own : List ℕ → ℕ → ℕ → Type 0
Own d n x = (x < n) × (get_or d x 0 ≡ x)

module _ (d : List ℕ) where
  list_length : (n : ℕ) → length (start_list d n) ≡ start_count d n
  unfolding start_list start_count
  list_length zero = refl
  list_length (suc q) = one (list_length q) (eqb (get_or d q 0) q)
    where
      one : length (start_list d q) ≡ start_count d q → (b : Bool) → length (cond b (q ∷ start_list d q) (start_list d q)) ≡ start_count d q + cond b 1 0
      one before true = omega arith
      one before false = omega arith

  list_at : (n i : ℕ) → i < length (start_list d n) → Own d n (get_or (start_list d n) i 0)
  unfolding start_list
  list_at zero i h = absurd (omega arith)
  list_at (suc q) i h = one (list_at q) (eqb (get_or d q 0) q) refl i h
    where
      one : ((i : ℕ) → i < length (start_list d q) → Own d q (get_or (start_list d q) i 0)) → (b : Bool) → eqb (get_or d q 0) q ≡ b
          → (i : ℕ) → i < length (cond b (q ∷ start_list d q) (start_list d q)) → Own d (suc q) (get_or (cond b (q ∷ start_list d q) (start_list d q)) i 0)
      one before true t zero h = (omega arith, eqb-true (get_or d q 0) q t)
      one before true t (suc i) h = let x = before i (omega arith) in (omega (arith, x.0), x.1)
      one before false t i h = let x = before i h in (omega (arith, x.0), x.1)

  list_distinct : (n : ℕ) → Distinct (start_list d n)
  unfolding start_list
  list_distinct zero i j h k e = absurd (omega arith)
  list_distinct (suc q) i j h k e = one (list_distinct q) (λ i l. (list_at q i l).0) (eqb (get_or d q 0) q) i j h k e
    where
      one : Distinct (start_list d q) → ((i : ℕ) → i < length (start_list d q) → get_or (start_list d q) i 0 < q) → (b : Bool)
          → Distinct (cond b (q ∷ start_list d q) (start_list d q))
      one before lower true zero zero h k e = refl
      one before lower true zero (suc j) h k e = absurd (omega (arith, lower j (omega arith)))
      one before lower true (suc i) zero h k e = absurd (omega (arith, lower i (omega arith)))
      one before lower true (suc i) (suc j) h k e = ap suc (before i j (omega arith) (omega arith) e)
      one before lower false i j h k e = before i j h k e

  list_there : (n q : ℕ) → q < n → get_or d q 0 ≡ q → (i : ℕ) × (i < length (start_list d n)) × (get_or (start_list d n) i 0 ≡ q)
  unfolding start_list
  list_there zero q h e = absurd (omega arith)
  list_there (suc p) q h e = one (list_there p q) (eqb (get_or d p 0) p) refl
    where
      one : (q < p → get_or d q 0 ≡ q → (i : ℕ) × (i < length (start_list d p)) × (get_or (start_list d p) i 0 ≡ q)) → (b : Bool) → eqb (get_or d p 0) p ≡ b
          → (i : ℕ) × (i < length (cond b (p ∷ start_list d p) (start_list d p))) × (get_or (cond b (p ∷ start_list d p) (start_list d p)) i 0 ≡ q)
      one before true t =
          by_test (eqb p q)
          (λ s. (0, suc-le-suc zero-le, eqb-true p q s))
          (λ s. let ne = eqb-false p q s in let x = before (omega arith) e in (suc x.0, suc-le-suc x.1, x.2))
      one before false t =
          by_test (eqb p q)
          (λ s. not_both (subst (λ (x : ℕ). eqb (get_or d x 0) x ≡ true) (sym (eqb-true p q s)) (eq-eqb (get_or d q 0) q e)) t)
          (λ s. let ne = eqb-false p q s in before (omega arith) e)

  start_list_lem : (n q : ℕ) → ((i : ℕ) × (i < length (start_list d n)) × (get_or (start_list d n) i 0 ≡ q)) ↔ ((q < n) × (get_or d q 0 ≡ q))
  start_list_lem n q = (
    (λ u. subst (λ (x : ℕ). Own d n x) u.2 (list_at n u.0 u.1)),
    λ u. list_there n q u.0 u.1,
  )

module _ (a : Automaton) (d : List ℕ) (m : ℕ) (merged : Merged a d m) where
  abbrev starts : List ℕ
  starts = start_list d a.n

  -- a state that is its own number in the list is its own delegate: past the list's end there is
  -- none, and 32, which says none, is past it
  own_start : (q : ℕ) → q < a.n → get_or d q 0 ≡ q → Delegate a q (some q)
  own_start q h e = let u = merged.delegates q h in of u.0 u.1 (sym e ∙ u.2)
    where
      of : (o : Option ℕ) → Delegate a q o → q ≡ delegate_cell o → Delegate a q (some q)
      of none f z =
          let past : get_or d q 0 ≡ 0 = get_or-eq_default d 0 (omega (arith, merged.cells)) in
          absurd (omega arith)
      of (some x) f z = subst (λ (v : ℕ). Delegate a q (some v)) (sym z) f

  start_is : (i : ℕ) → i < length starts → Delegate a (get_or starts i 0) (some (get_or starts i 0))
  start_is i h = let x = list_at d a.n i h in own_start (get_or starts i 0) x.0 x.1

  start_count_lem : length starts ≡ m
  start_count_lem = list_length d a.n ∙ sym merged.starts

  fewest : (S : List ℕ) → Covers a S → m ≤ length S
  fewest S covers =
      let c =
      chosen (λ i j. (j < length S) × Alike a (get_or starts i 0) (get_or S j 0)) (length starts)
      (λ i h. let u = covers (get_or starts i 0) (list_at d a.n i h).0 (start_is i h).0 in (u.0, (u.1, u.2))) in
      let p : length starts ≤ length S =
      pigeonhole (length S) (length starts) c.0 (λ i h. (c.1 i h).0)
      (λ i j h k e.
      let x = get_or starts i 0 in
      let y = get_or starts j 0 in
      let u : Alike a x (get_or S (c.0 j) 0) = subst (λ (z : ℕ). Alike a x (get_or S z 0)) e (c.1 i h).1 in
      list_distinct d a.n i j h k
      ((same_delegate a x y x y (start_is i h) (start_is j k)).0
      (alike_on a x (get_or S (c.0 j) 0) y u (alike_back a y (get_or S (c.0 j) 0) (c.1 j k).1)))) in
      omega (arith, start_count_lem)

  starts_cover : Covers a starts
  starts_cover q h live = let u = merged.delegates q h in of u.0 u.1
    where
      of : (o : Option ℕ) → Delegate a q o → (i : ℕ) × (i < length starts) × Alike a q (get_or starts i 0)
      of none f = absurd (f live)
      of (some x) f =
          let v = merged.delegates x f.1.state in
          let own : get_or d x 0 ≡ x = v.2 ∙ ap delegate_cell (one_delegate a x v.0 (some x) v.1 (own_delegate a q x f)) in
          let there = list_there d a.n x f.1.state own in
          (there.0, there.1, subst (λ (z : ℕ). Alike a q z) (sym there.2) f.1.alike)

pub fewest_claims : FewestClaims
fewest_claims = record {
  fewest = fewest;
  starts_cover = starts_cover;
  start_count_lem = start_count_lem;
  start_list_lem = start_list_lem;
}
