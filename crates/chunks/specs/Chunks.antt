-- Running a chunk (document 01, "Running a chunk"), over the targets `ts` of a rule: which states a
-- chunk is run from, the end set of each run and what the runs count.
--
--   foreign w k            some byte of w is no symbol below k (13)
--   counted ts m w         what a run over w counts that begins with the set m: one transition for
--                          each successor that is not empty
--   delegate_set d n m     the delegates of the members of m; a member without one is passed over
--   run_set d n m place    the states that a chunk is run from at a place, where m is the set of
--                          initial states
--   end_set ts run w q      the end set of state q for the chunk w; empty where q is not run
--   chunk_count ts run w   the chunk's count: the sum of what its runs count
--   looked ts run w        for how many bytes of w a successor is looked up (document 02, R-2):
--                          until every run's set is empty, else for all. `run` is the set of the
--                          states that are run, so its successor is the union of the runs' sets
use Rattle.std.specs.Prelude.{Bool, false, cond, ◌||◌, List, [], ◌∷◌, ℕ, zero, suc, ◌+◌, eqb, leb}
use Rattle.limits.specs.Limits.{most_states}
use Rattle.base.specs.Totals.{total}
use Rattle.masks.specs.Masks.{has, single, union}
use Rattle.automaton.specs.Successor.{successor, after}
use Rattle.delegates.specs.Alike.{delegate_in, of_delegate, start_set}

unfoldable pub foreign : List ℕ → ℕ → Bool
foreign [] k = false
foreign (b ∷ w) k = leb k b || foreign w k

unfoldable pub counted : List ℕ → ℕ → List ℕ → ℕ
counted ts m [] = 0
counted ts m (s ∷ w) = cond (eqb (successor ts m s) 0) 0 1 + counted ts (successor ts m s) w

abbrev pub delegate_set : List ℕ → ℕ → ℕ → ℕ
delegate_set d n m = union (λ q. of_delegate single (delegate_in d q)) m n

-- place 0 is run from the delegates of initial states, any other place from all starts
abbrev pub run_set : List ℕ → ℕ → ℕ → ℕ → ℕ
run_set d n m zero = delegate_set d n m
run_set d n m (suc place) = start_set d n

abbrev pub end_set : List ℕ → ℕ → List ℕ → ℕ → ℕ
end_set ts run w q = cond (has run q) (after ts (single q) w) 0

abbrev pub chunk_count : List ℕ → ℕ → List ℕ → ℕ
chunk_count ts run w = total (λ q. cond (has run q) (counted ts (single q) w) 0) most_states

unfoldable pub looked : List ℕ → ℕ → List ℕ → ℕ
looked ts run [] = 0
looked ts run (s ∷ w) = cond (eqb run 0) 0 (suc (looked ts (successor ts run s) w))
