-- What runs count, at most: one transition for each byte, and so for a chunk that is run from
-- starts M times its bytes. Assumes nothing.
use mathlib.Core.Path.{◌≡◌, refl}
use mathlib.Core.Bool.{Bool, cond}
use mathlib.Core.List.{List, [], ◌∷◌}
use Prim.Native.Nat.{ℕ, zero, suc, ◌+◌, ◌-◌, ◌*◌, ◌≤◌, ◌<◌}
use native.Mathlib.Nat.{add-mul}
use native.Mathlib.Omega.{arith}
use borrow.Author.Tests.{eq-eqb}
use lib.Dec.{eqb}
use lib.ListN.{length, get_or}
use Rattle.base.specs.Totals.{total}
use Rattle.base.proofs.Tests.{by_test, either_most}
use Rattle.base.proofs.Totals.{total_rest}
use Rattle.masks.specs.Masks.{◌∈◌, has, single}
use Rattle.masks.proofs.Laws.{member_of, union-empty}
use Rattle.automaton.specs.Rules.{target_mask}
use Rattle.automaton.specs.Successor.{successor}
use Rattle.delegates.specs.Alike.{start_count, start_set}
use Rattle.chunks.specs.Chunks.{counted, chunk_count}
use Rattle.chunks.proofs.Starts.{start_law}

one_transition : (b : Bool) → cond b 0 1 ≤ 1
one_transition b = either_most b (omega arith) (omega arith)

pub counted_most : (ts : List ℕ) (m : ℕ) (w : List ℕ) → counted ts m w ≤ length w
unfolding counted
counted_most ts m [] = omega arith
counted_most ts m (s ∷ w) = omega (arith, one_transition (eqb (successor ts m s) 0), counted_most ts (successor ts m s) w)

-- the empty set counts nothing
pub counted_empty : (ts w : List ℕ) → counted ts 0 w ≡ 0
unfolding counted
counted_empty ts [] = refl
counted_empty ts (s ∷ w) = rw (union-empty (λ q. target_mask ts q s) 32) (omega (arith, counted_empty ts w))

-- where only states that are their own delegate add, and each at most so much, the whole is at most
-- M times that
total_starts : (f : ℕ → ℕ) (d : List ℕ) (most n : ℕ) → ((q : ℕ) → q < n → f q ≤ cond (eqb (get_or d q 0) q) 1 0 * most)
    → total f n ≤ start_count d n * most
unfolding total start_count
total_starts f d most zero h = omega arith
total_starts f d most (suc n) h =
    rw (add-mul (start_count d n) (cond (eqb (get_or d n 0) n) 1 0) most) (omega (arith, total_starts f d most n (λ q l. h q (omega arith)), h n (omega arith)))

module _ (ts d : List ℕ) (n run : ℕ) (few : n ≤ 32) (starts : (q : ℕ) → q ∈ run → q ∈ start_set d n) (w : List ℕ) where
  runs : ℕ → ℕ
  runs q = cond (has run q) (counted ts (single q) w) 0

  only_states : (q : ℕ) → n ≤ q → runs q ≡ 0
  unfolding runs
  only_states q h =
      by_test (has run q)
      (λ t. absurd (let s = (start_law d n q).0 (starts q (member_of run q t)) in omega (arith, s.0)))
      (λ t. rw t)

  only_starts : (q : ℕ) → q < n → runs q ≤ cond (eqb (get_or d q 0) q) 1 0 * length w
  unfolding runs
  only_starts q h =
      by_test (has run q)
      (λ t.
      let s = (start_law d n q).0 (starts q (member_of run q t)) in
      rw (t, eq-eqb (get_or d q 0) q s.1) (omega (arith, counted_most ts (single q) w)))
      (λ t. rw t (omega arith))

  pub chunk_most : chunk_count ts run w ≤ start_count d n * length w
  unfolding runs
  chunk_most =
      let e : 32 ≡ (32 - n) + n = omega arith in
      rw (e, total_rest runs (32 - n) n only_states) (total_starts runs d (length w) n only_starts)
