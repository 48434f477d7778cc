-- Up to 32 runs over a text, block by block. Runs that stand in the same set share a lane. Nothing
-- here needs to be believed: the crate chunks ties it to the next-set table.
--
--   walked_of t w rows  where the text w leads from each of 32 row offsets, what each of the runs
--                       counts, and for how many bytes any of them looks a successor up
--   then_of x y         two parts of a text, one after the other: the rows of the second; counts
--                       and bytes looked up are summed
--   lane_room           the most lanes: eight that stay empty, and one for each run
--   pick_of of l         for each run what the list l has for its lane
--   InUse lane used     the lanes have row offsets, and from `used` on they are empty
--   Shared rows ..      lane `of` j has the row offset of run j, and no lane has any but those of
--                       runs and the empty set's
--   Small x             no number of x is above the length of the longest chunk
use Rattle.std.specs.Prelude.{◌≡◌, ◌⊎◌, List, ℕ, ◌+◌, ◌≤◌, ◌<◌, length, get_or}
use Rattle.limits.specs.Limits.{most_states, longest_chunk}
use Rattle.base.specs.Lists.{list_from}
use Rattle.lanes.specs.mirror.Offsets.{empty_row, lane_count, rows_end, rows_count, rows_looked, Rows}
use Rattle.blocks.specs.declared.Walked.{Walked}

abbrev pub walked_of : List ℕ → List ℕ → List ℕ → Walked
walked_of t w rows = record {
  rows = rows_end t w rows most_states;
  counts = rows_count t w rows most_states;
  looked = rows_looked t w rows most_states;
}

abbrev pub then_of : Walked → Walked → Walked
then_of x y = record {
  rows = y.rows;
  counts = list_from 0 most_states (λ j. get_or x.counts j 0 + get_or y.counts j 0);
  looked = x.looked + y.looked;
}

abbrev pub lane_room : ℕ
lane_room = lane_count + most_states

abbrev pub pick_of : List ℕ → List ℕ → List ℕ
pick_of of l = list_from 0 most_states (λ j. get_or l (get_or of j 0) 0)

pub record InUse (lane : List ℕ) (used : ℕ) : Type 0 where
  pub size : length lane ≡ lane_room
  pub rows : Rows lane
  pub most : used ≤ lane_room
  pub rest : (k : ℕ) → used ≤ k → k < lane_room → get_or lane k 0 ≡ empty_row

pub record Shared (rows lane of : List ℕ) (used : ℕ) : Type 0 where
  pub lanes : InUse lane used
  pub within : (j : ℕ) → j < most_states → get_or of j 0 < lane_room
  pub same : (j : ℕ) → j < most_states → get_or lane (get_or of j 0) 0 ≡ get_or rows j 0
  pub some : (k : ℕ) → k < lane_room → (get_or lane k 0 ≡ empty_row) ⊎ (j : ℕ) × (j < most_states) × (get_or lane k 0 ≡ get_or rows j 0)

pub record Small (x : Walked) : Type 0 where
  pub looked : x.looked ≤ longest_chunk
  pub counts : (j : ℕ) → get_or x.counts j 0 ≤ longest_chunk
