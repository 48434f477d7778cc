-- The laws of a walk over any next-set table, and that the table of row offsets walks the same way.
-- Assumes nothing.
--
--   end_empty, count_empty, looked_empty   the empty set stays empty, and counts and reads nothing
--   count_most                             at most one step is counted for a byte
--   row_end_lem, row_count_lem, row_looked_lem  a walk over row offsets is a walk over sets' numbers
use mathlib.Core.Path.{◌≡◌, sym, ◌∙◌}
use mathlib.Core.List.{List}
use Prim.Native.Nat.{ℕ, ◌%◌, ◌≤◌}
use native.Mathlib.Omega.{arith}
use borrow.Author.Tests.{lt-ltb, le-ltb, ltb-true, ltb-false}
use lib.Dec.{ltb}
use lib.ListN.{length}
use Rattle.base.proofs.Tests.{by_test}
use Rattle.delegates.proofs.Classes.{follow_set, follow_empty, follow_within}
use Rattle.walks.proofs.Steps as walks
use Rattle.lanes.specs.mirror.Offsets.{row_of, offsets_of, hop_of, row_end, row_count, row_looked}
use Rattle.lanes.proofs.Offsets.{hop_set, hop_empty}
use Rattle.chunks.specs.mirror.Walks.{step_of, walk_end, walk_count, walk_looked}

module _ (next : List ℕ) where
  low : (i b : ℕ) → step_of next i b ≤ 512
  low i b = follow_within next i (b % 16)

  stays : (b : ℕ) → step_of next 512 b ≡ 512
  stays b = follow_empty next 512 (b % 16) (omega arith)

  pub end_empty : (w : List ℕ) → walk_end next 512 w ≡ 512
  end_empty w = walks.end_empty (step_of next) 512 low stays w

  pub count_empty : (w : List ℕ) → walk_count next 512 w ≡ 0
  count_empty w = walks.count_empty (step_of next) 512 low stays w

  pub looked_empty : (w : List ℕ) → walk_looked next 512 w ≡ 0
  looked_empty w = walks.looked_empty (step_of next) 512 512 w (omega arith)

  pub count_most : (i : ℕ) (w : List ℕ) → walk_count next i w ≤ length w
  count_most i w = walks.count_most (step_of next) 512 i w

  -- ---- over row offsets
  same_step : (i b : ℕ) → hop_of (offsets_of next) (row_of i) b ≡ row_of (step_of next i b)
  same_step i b =
      by_test (ltb i 512)
      (λ t. let l = ltb-true i 512 t in hop_set next i b l ∙ omega (arith, follow_set next i (b % 16) l))
      (λ t. let l = ltb-false i 512 t in hop_empty next i b l ∙ omega (arith, follow_empty next i (b % 16) l))

  same_test : (i : ℕ) → ltb (row_of i) 8192 ≡ ltb i 512
  same_test i =
      by_test (ltb i 512)
      (λ t. lt-ltb (row_of i) 8192 (omega (arith, ltb-true i 512 t)) ∙ sym t)
      (λ t. le-ltb (row_of i) 8192 (omega (arith, ltb-false i 512 t)) ∙ sym t)

  pub row_end_lem : (i : ℕ) (w : List ℕ) → row_end (offsets_of next) w (row_of i) ≡ row_of (walk_end next i w)
  row_end_lem = walks.end_through (step_of next) (hop_of (offsets_of next)) 512 8192 row_of same_step same_test

  pub row_count_lem : (i : ℕ) (w : List ℕ) → row_count (offsets_of next) w (row_of i) ≡ walk_count next i w
  row_count_lem = walks.count_through (step_of next) (hop_of (offsets_of next)) 512 8192 row_of same_step same_test

  pub row_looked_lem : (i : ℕ) (w : List ℕ) → row_looked (offsets_of next) w (row_of i) ≡ walk_looked next i w
  row_looked_lem = walks.looked_through (step_of next) (hop_of (offsets_of next)) 512 8192 row_of same_step same_test
