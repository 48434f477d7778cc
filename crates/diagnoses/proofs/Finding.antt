-- The search for a loss, place by place: each way out of one turn, and what is found. Assumes
-- nothing.
use mathlib.Core.Path.{◌≡◌, refl, sym, ap, ◌∙◌, subst}
use mathlib.Core.Bool.{Bool, true, false}
use mathlib.Core.List.{List}
use Prim.Native.Nat.{ℕ, zero, suc, ◌+◌, ◌-◌, ◌≤◌, ◌<◌}
use native.Mathlib.Numerals.{add-one}
use native.Mathlib.Omega.{arith}
use lib.Dec.{eqb}
use lib.ListN.{get_or}
use borrow.Author.Tests.{eq-eqb, ne_eqb, eqb-true, eqb-false}
use Rattle.base.proofs.Tests.{by_test}
use Rattle.chunks.specs.mirror.Walks.{delegate_mask}
use Rattle.joins.specs.Joining.{join_up_to}
use Rattle.board.specs.Boards.{places_of}
use Rattle.calls.specs.declared.Judge.{Judge}
use Rattle.diagnoses.specs.Diagnosing.{Finding, refused_as, lost_at, open_with, find_from, lost_after, diagnosis_of}

module _ (empty lost : ℕ → Bool) where
  -- ---- one turn: what is found from place p on is g
  module _ (p n : ℕ) (g : Finding) (so_far : find_from empty lost p (n - p) ≡ g) where
    pub find_empty : p < n → empty p ≡ true → open_with p ≡ g
    unfolding find_from
    find_empty h e = let more : n - p ≡ suc (n - suc p) = omega arith in sym (rw (more, e)) ∙ so_far

    pub find_lost : p < n → empty p ≡ false → lost p ≡ true → lost_at p ≡ g
    unfolding find_from
    find_lost h e l = let more : n - p ≡ suc (n - suc p) = omega arith in sym (rw (more, e, l)) ∙ so_far

    pub find_past : p < n → empty p ≡ false → lost p ≡ false → find_from empty lost (p + 1) (n - (p + 1)) ≡ g
    unfolding find_from
    find_past h e l = let more : n - p ≡ suc (n - suc p) = omega arith in sym (rw (more, e, l, add-one)) ∙ so_far

    pub find_end : n ≤ p → open_with p ≡ g
    unfolding find_from
    find_end h = let none : n - p ≡ 0 = omega arith in sym (rw none) ∙ so_far

  pub find_start : (n : ℕ) → find_from empty lost 0 (n - 0) ≡ find_from empty lost 0 n
  find_start n = let all : n - 0 ≡ n = omega arith in rw all

  -- ---- what is found among n places
  abbrev pub Found : ℕ → Finding → Type 0
  Found n (refused_as x) = ⊥
  Found n (lost_at p) = (p < n) × ((i : ℕ) → i ≤ p → empty i ≡ false) × (lost p ≡ true) × ((i : ℕ) → i < p → lost i ≡ false)
  Found n (open_with m) = (m ≤ n) × ((i : ℕ) → i < m → empty i ≡ false) × ((i : ℕ) → i < m → lost i ≡ false) × (m < n → empty m ≡ true)

  one_more : (t : ℕ → Bool) (p : ℕ) → ((i : ℕ) → i < p → t i ≡ false) → t p ≡ false → (i : ℕ) → i ≤ p → t i ≡ false
  one_more t p before here i b =
      by_test (eqb i p)
      (λ e. subst (λ (x : ℕ). t x ≡ false) (sym (eqb-true i p e)) here)
      (λ e. let ne = eqb-false i p e in before i (omega arith))

  found_from : (n f p : ℕ) → p + f ≡ n → ((i : ℕ) → i < p → empty i ≡ false) → ((i : ℕ) → i < p → lost i ≡ false)
      → Found n (find_from empty lost p f)
  unfolding find_from
  found_from n zero p s filled kept = (omega arith, filled, kept, λ b. absurd (omega arith))
  found_from n (suc f) p s filled kept =
      by_test (empty p)
      (λ e. rw e (omega arith, filled, kept, λ b. e))
      (λ e.
      by_test (lost p)
      (λ l. rw (e, l) (omega arith, one_more empty p filled e, l, kept))
      (λ l.
      rw (e, l)
      (found_from n f (suc p) (omega arith)
      (λ i b. one_more empty p filled e i (omega arith))
      (λ i b. one_more lost p kept l i (omega arith)))))

  pub found : (n : ℕ) → Found n (find_from empty lost 0 n)
  found n = found_from n n 0 (omega arith) (λ i b. absurd (omega arith)) (λ i b. absurd (omega arith))

-- two searches by tests that agree find the same
pub find_same : (empty lost empty' lost' : ℕ → Bool) (p f : ℕ) → ((i : ℕ) → i < p + f → empty i ≡ empty' i) → ((i : ℕ) → i < p + f → lost i ≡ lost' i)
    → find_from empty lost p f ≡ find_from empty' lost' p f
unfolding find_from
find_same empty lost empty' lost' p zero a b = refl
find_same empty lost empty' lost' p (suc f) a b =
    rw (a p (omega arith), b p (omega arith), find_same empty lost empty' lost' (suc p) f (λ i l. a i (omega arith)) (λ i l. b i (omega arith)))

-- ---- the tests of the code's search, over arrays that may hold anything
module _ (filled ends d : List ℕ) (n m : ℕ) where
  abbrev pub no_chunk : ℕ → Bool
  no_chunk p = eqb (get_or filled p 0) 0

  abbrev pub lost_past : ℕ → Bool
  lost_past p = lost_after ends d n m (suc p)

  module _ (p next mask : ℕ) (joined : next ≡ join_up_to ends d n m (p + 1)) (is : mask ≡ delegate_mask d n next) where
    mask_is : mask ≡ delegate_mask d n (join_up_to ends d n m (suc p))
    mask_is = is ∙ ap (delegate_mask d n) (joined ∙ ap (join_up_to ends d n m) (add-one p))

    pub none_live : mask ≡ 0 → lost_past p ≡ true
    none_live z = eq-eqb _ _ (sym mask_is ∙ z)

    pub some_live : (mask ≡ 0 → ⊥) → lost_past p ≡ false
    some_live ne = ne_eqb _ _ (λ z. ne (mask_is ∙ z))

-- ---- the ways out of a diagnosis
module _ (j : Judge) (f : Finding) where
  pub diagnosed_21 : j.board.places ≡ 0 → f ≡ refused_as 21 → f ≡ diagnosis_of j
  unfolding diagnosis_of
  diagnosed_21 z e = e ∙ rw (eq-eqb _ _ z)

  pub diagnosed : (j.board.places ≡ 0 → ⊥) → (n : ℕ) → n ≡ places_of j.board
      → f
      ≡ find_from (no_chunk j.board.filled j.board.ends j.built.delegates j.built.n j.built.initials)
      (lost_past j.board.filled j.board.ends j.built.delegates j.built.n j.built.initials)
      0
      n
      → f ≡ diagnosis_of j
  unfolding diagnosis_of
  diagnosed ne n e is = rw (ne_eqb _ _ ne, ← e) is
