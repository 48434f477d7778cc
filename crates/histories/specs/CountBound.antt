-- The summed count cannot grow large, and so no delivery is refused for it (document 02, R-4).
-- Document 01 had a sixth condition for a delivery, 24: the summed count would exceed
-- 4,294,967,295. It stands here alone, beside the claim that nobody misses it.
-- proofs/CountBound.antt proves that claim of every list of calls.
--
--   sum_but f p n      the sum of f 0, .. f (n − 1) without f p
--   former_conditions  the conditions of a delivery as document 01 had them: the five, then 24 by
--                      the sum of the counts with that of the chunk. A chunk that it replaces is no
--                      longer in the sum (document 02, R-11)
--   sum_in_with, sum_with the sum of the counts at the other places with that of the chunk, by what a
--                      list says and by what a state holds
--   former_number h    the number with which they refuse a delivery after the calls h
--   CountBound h       after the calls h the sum is at most 64 × 65,536 × 32, with a chunk that can
--                      be delivered too; and the former conditions change no answer
use Rattle.std.specs.Prelude.{◌≡◌, Bool, cond, List, [], ◌∷◌, ◌++◌, ℕ, ◌+◌, ◌≤◌, eqb, ltb, get_or}
use Rattle.std.proofs.Math.Option.{Option, none, some}
use Rattle.limits.specs.Limits.{most_transitions}
use Rattle.base.specs.Conditions.{Condition, on, first_of}
use Rattle.base.specs.Totals.{total}
use Rattle.board.specs.Boards.{places_of, summed_count}
use Rattle.calls.specs.declared.Judge.{Judge}
use Rattle.calls.specs.Calls.{Call, deliver_conditions}
use Rattle.calls.specs.mirror.Steps.{runs_at}
use Rattle.histories.specs.History.{rule_in, places_in, not_greater, last_revision, count_of, count_at, summed_in, deliver_number}
use Rattle.histories.specs.Claims.{judge_after}

-- ---- the former order
abbrev pub sum_but : (ℕ → ℕ) → ℕ → ℕ → ℕ
sum_but f p n = total (λ i. cond (eqb i p) 0 (f i)) n

-- as `deliver_conditions`; the sum of the counts at the other places with that of the chunk
abbrev pub former_conditions : Bool → ℕ → ℕ → List ℕ → ℕ → Bool → ℕ → List Condition
former_conditions lacks places p w k late sum =
    deliver_conditions lacks places p w k late ++ (on 24 (ltb 4294967295 sum) ∷ [])

-- by what the list says
abbrev pub sum_in_with : List Call → ℕ → List ℕ → ℕ
sum_in_with h p w = sum_but (count_at h) p (places_in h) + count_of (rule_in h) p (some w)

abbrev pub former_number : List Call → ℕ → ℕ → List ℕ → Option ℕ
former_number h p v w =
    first_of
    (former_conditions (eqb (places_in h) 0) (places_in h) p w (rule_in h).k (not_greater v (last_revision h p)) (sum_in_with h p w))

-- by what a state holds, with what running the chunk counts
abbrev pub sum_with : Judge → ℕ → List ℕ → ℕ
sum_with j p w = sum_but (λ i. get_or j.board.counts i 0) p (places_of j.board) + (runs_at j p w).count

-- ---- the claim
pub record CountBound (h : List Call) : Type 0 where
  -- the sum of the counts of what stands
  pub most : summed_in h ≤ most_transitions
  -- of the other places, with the count of a chunk that 21, 11, 12, 13 and 22 let pass
  pub most_with : (p v : ℕ) (w : List ℕ) → deliver_number h p v w ≡ none → sum_in_with h p w ≤ most_transitions
  -- the same of what the judge holds, and of what it counts when it runs the chunk
  pub held_most : summed_count (judge_after h).board ≤ most_transitions
  pub held_most_with : (p v : ℕ) (w : List ℕ) → deliver_number h p v w ≡ none
      → sum_with (judge_after h) p w ≤ most_transitions
  -- so the six conditions refuse a delivery exactly as the five do
  pub same_number : (p v : ℕ) (w : List ℕ) → former_number h p v w ≡ deliver_number h p v w
