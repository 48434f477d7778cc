-- The bytes for which a successor is looked up. Assumes nothing.
--
--   looked_or       the number for the union of two sets is the greater of their numbers
--   looked_runs     so it is the greatest over the runs
--   all_empty_law   every run's set is empty exactly when the successor of the set that is run is
--   looked_most, looked_all_empty, looked_least   R-2's words
--
-- The route: a run that has died stays dead (`looked_none`), and the successor of a union is the
-- union of the successors, so the union of the runs' sets is empty when the last of them is.
use mathlib.Core.Path.{◌≡◌, refl, sym, ap, ap₂, ◌∙◌}
use mathlib.Core.Bool.{Bool, true, false, cond}
use mathlib.Core.List.{List, [], ◌∷◌}
use Prim.Native.Nat.{ℕ, zero, suc, ◌^◌, ◌≤◌, ◌<◌, max}
use native.Mathlib.Omega.{arith}
use borrow.Author.Tests.{eqb-true, eqb-false, ne_eqb}
use lib.Bits.{bit_or, or_zero_l, or_zero_r}
use lib.Dec.{eqb}
use lib.ListN.{length, take}
use Rattle.base.specs.Totals.{greatest}
use Rattle.base.proofs.Tests.{by_test}
use Rattle.masks.specs.Masks.{◌∈◌, has, single, union}
use Rattle.masks.proofs.Laws.{ext, no_member, member_of, has_member, members_below, single_law, part_of, in_union, or_left, or_right, empty_mask, union_or}
use Rattle.automaton.specs.Rules.{target_mask}
use Rattle.automaton.specs.Successor.{successor, after}
use Rattle.automaton.proofs.Laws.{after_or, after_empty}
use Rattle.chunks.specs.Chunks.{looked}
use Rattle.chunks.specs.Claims.{AllEmpty}

-- ---- nothing is looked up from the empty set
pub looked_none : (ts : List ℕ) (w : List ℕ) → looked ts 0 w ≡ 0
unfolding looked
looked_none ts [] = refl
looked_none ts (s ∷ w) = refl

pub looked_step : (ts : List ℕ) (m s : ℕ) (w : List ℕ) → (m ≡ 0 → ⊥) → looked ts m (s ∷ w) ≡ suc (looked ts (successor ts m s) w)
unfolding looked
looked_step ts m s w some = rw (ne_eqb m 0 some)

-- ---- a union is empty when both are
or-none : (a b : ℕ) → bit_or a b ≡ 0 → (a ≡ 0) × (b ≡ 0)
or-none a b e = (
  empty_mask a (λ q h. no_member q (rw (sym e) (or_left a b q h))),
  empty_mask b (λ q h. no_member q (rw (sym e) (or_right a b q h))),
)

pub looked_or : (ts : List ℕ) (l m : ℕ) (w : List ℕ) → looked ts (bit_or l m) w ≡ max (looked ts l w) (looked ts m w)
unfolding looked
looked_or ts l m [] = refl
looked_or ts l m (s ∷ w) =
    by_test (eqb l 0)
    (λ a.
    let z : l ≡ 0 = eqb-true l 0 a in
    rw (z, or_zero_l m) (omega arith))
    (λ a.
    by_test (eqb m 0)
    (λ b.
    let z : m ≡ 0 = eqb-true m 0 b in
    rw (z, or_zero_r l) (omega arith))
    (λ b.
    let n : bit_or l m ≡ 0 → ⊥ = λ e. eqb-false l 0 a (or-none l m e).0 in
    rw (ne_eqb (bit_or l m) 0 n, a, b, union_or (λ q. target_mask ts q s) l m 32, looked_or ts (successor ts l s) (successor ts m s) w)
    (omega arith)))

-- ---- over the runs
-- the members below n
abbrev first : ℕ → ℕ → ℕ
first run n = union single run n

first_all : (run n : ℕ) → run < 2 ^ n → first run n ≡ run
first_all run n below =
    ext (first run n) run (λ q. (
      (λ h.
          let p = part_of single run q n h in
          let e : q ≡ p.from = (single_law p.from q).0 p.there in
          rw e p.member),
      (λ h. in_union single run q n q (members_below n run q below h) h ((single_law q q).1 refl)),
    ))

module _ (ts : List ℕ) (run : ℕ) (w : List ℕ) where
  looked_first : (n : ℕ) → looked ts (first run n) w ≡ greatest (λ q. cond (has run q) (looked ts (single q) w) 0) n
  unfolding union greatest
  looked_first zero = looked_none ts w
  looked_first (suc n) =
      looked_or ts (first run n) (cond (has run n) (single n) 0) w
      ∙ ap₂ max (looked_first n) (one (has run n))
    where
      one : (t : Bool) → looked ts (cond t (single n) 0) w ≡ cond t (looked ts (single n) w) 0
      one true = refl
      one false = looked_none ts w

  pub looked_runs : (n : ℕ) → run < 2 ^ n → looked ts run w ≡ greatest (λ q. cond (has run q) (looked ts (single q) w) 0) n
  looked_runs n below = ap (λ (m : ℕ). looked ts m w) (sym (first_all run n below)) ∙ looked_first n

-- ---- R-2's words
module _ (ts : List ℕ) where
  pub looked_most : (run : ℕ) (w : List ℕ) → looked ts run w ≤ length w
  unfolding looked
  looked_most run [] = omega arith
  looked_most run (s ∷ w) =
      by_test (eqb run 0)
      (λ t. rw t (omega arith))
      (λ t. rw t (omega (arith, looked_most (successor ts run s) w)))

  -- the set that is run is empty after so many bytes, and not after fewer
  empties : (run : ℕ) (w : List ℕ) → looked ts run w < length w → after ts run (take (looked ts run w) w) ≡ 0
  unfolding looked
  empties run [] h = absurd (omega arith)
  empties run (s ∷ w) h =
      by_test (eqb run 0)
      (λ t. rw t (eqb-true run 0 t))
      (λ t. rw t (empties (successor ts run s) w (let l : suc (looked ts (successor ts run s) w) < length (s ∷ w) = rw t at h in omega arith)))

  not-before : (run : ℕ) (w : List ℕ) (i : ℕ) → i < looked ts run w → after ts run (take i w) ≡ 0 → ⊥
  unfolding looked
  not-before run [] i h e = omega arith
  not-before run (s ∷ w) zero h e =
      by_test (eqb run 0) (λ t. let l : 0 < 0 = rw t at h in omega arith) (λ t. eqb-false run 0 t e)
  not-before run (s ∷ w) (suc i) h e =
      by_test (eqb run 0)
      (λ t. let l : suc i < 0 = rw t at h in omega arith)
      (λ t. not-before (successor ts run s) w i (let l : suc i < suc (looked ts (successor ts run s) w) = rw t at h in omega arith) e)

  -- ---- every run's set is empty exactly when the successor of the set that is run is
  module _ (run : ℕ) (v : List ℕ) where
    all_first : (n : ℕ) → ((q : ℕ) → q < n → q ∈ run → after ts (single q) v ≡ 0) → after ts (first run n) v ≡ 0
    unfolding union
    all_first zero h = after_empty ts v
    all_first (suc n) h =
        after_or ts (first run n) (cond (has run n) (single n) 0) v
        ∙ ap₂ bit_or (all_first n (λ q l. h q (omega arith))) (one (has run n) refl)
      where
        one : (t : Bool) → has run n ≡ t → after ts (cond t (single n) 0) v ≡ 0
        one true e = h n (omega arith) (member_of run n e)
        one false e = after_empty ts v

    some_first : (n : ℕ) → after ts (first run n) v ≡ 0 → (q : ℕ) → q < n → q ∈ run → after ts (single q) v ≡ 0
    unfolding union
    some_first zero e q l m = absurd (omega arith)
    some_first (suc n) e q l m =
        let both = or-none (after ts (first run n) v) (after ts (cond (has run n) (single n) 0) v) (sym (after_or ts (first run n) (cond (has run n) (single n) 0) v) ∙ e) in
        by_test (eqb q n)
        (λ t.
        let same : q ≡ n = eqb-true q n t in
        let has-n : has run n ≡ true = rw (sym same) (has_member run q m) in
        rw same (rw has-n at both.1))
        (λ t. some_first n both.0 q (let ne = eqb-false q n t in omega arith) m)

    pub all_empty_law : run < 2 ^ 32 → (AllEmpty ts run v → after ts run v ≡ 0) × (after ts run v ≡ 0 → AllEmpty ts run v)
    all_empty_law below = (
      (λ h. ap (λ (m : ℕ). after ts m v) (sym (first_all run 32 below)) ∙ all_first 32 (λ q l m. h q m)),
      (λ e q m. some_first 32 (ap (λ (x : ℕ). after ts x v) (first_all run 32 below) ∙ e) q (members_below 32 run q below m) m),
    )

  pub looked_all_empty : (run : ℕ) → run < 2 ^ 32 → (w : List ℕ) → looked ts run w < length w → AllEmpty ts run (take (looked ts run w) w)
  looked_all_empty run below w h = (all_empty_law run (take (looked ts run w) w) below).1 (empties run w h)

  pub looked_least : (run : ℕ) → run < 2 ^ 32 → (w : List ℕ) (i : ℕ) → i < looked ts run w → AllEmpty ts run (take i w) → ⊥
  looked_least run below w i h all = not-before run w i h ((all_empty_law run (take i w) below).0 all)
