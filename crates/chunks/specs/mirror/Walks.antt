-- What the code does over the arrays of a built rule, whatever they hold: a walk over the next-set
-- table from a set's number. Nothing here needs to be believed: specs/Claims.antt says what it
-- comes to for a built rule. Any number from 512 on stands for the empty set.
--
--   step_of next i b       the set to which the byte b leads from set i
--   walk_end, walk_count  the number of the set after the bytes w, and how many of the steps led to
--                         a set that is not empty
--   walk_looked           for how many of the bytes w a cell of the table is read
--   mask_of sets i         the mask of set i
--   runs_of ..            the end set of each state that is run, as an array, the sum of the
--                         counts, the number of text bytes, and those for which any run looks a
--                         successor up
--   start_rows singles run  the row offset of {q} for each state q that is run; the empty set's for
--                         the others
--   end_masks sets rows   the masks of the sets that the row offsets stand for
--   delegate_mask, run_mask  delegate_set and run_set for at most 32 states: a number above counts as
--                           that
use Rattle.std.specs.Prelude.{cond, List, ℕ, ◌/◌, ◌%◌, min, ltb, length, get_or}
use Rattle.limits.specs.Limits.{most_states, most_symbols, empty_set}
use Rattle.base.specs.Lists.{list_from}
use Rattle.base.specs.Totals.{total, greatest}
use Rattle.masks.specs.Masks.{has}
use Rattle.delegates.specs.mirror.Classes.{follow}
use Rattle.walks.specs.mirror.Steps.{end_by, count_by, looked_by}
use Rattle.lanes.specs.mirror.Offsets.{empty_row, row_of}
use Rattle.chunks.specs.declared.Runs.{Runs}
use Rattle.chunks.specs.Chunks.{delegate_set, run_set}

abbrev pub step_of : List ℕ → ℕ → ℕ → ℕ
step_of next i b = follow next i (b % most_symbols)

abbrev pub walk_end : List ℕ → ℕ → List ℕ → ℕ
walk_end next i w = end_by (step_of next) i w

abbrev pub walk_count : List ℕ → ℕ → List ℕ → ℕ
walk_count next i w = count_by (step_of next) empty_set i w

abbrev pub walk_looked : List ℕ → ℕ → List ℕ → ℕ
walk_looked next i w = looked_by (step_of next) empty_set i w

abbrev pub mask_of : List ℕ → ℕ → ℕ
mask_of sets i = cond (ltb i empty_set) (get_or sets i 0) 0

abbrev pub runs_of : List ℕ → List ℕ → List ℕ → ℕ → List ℕ → Runs
runs_of sets next singles run w = record {
  ends = list_from 0 most_states (λ q. cond (has run q) (mask_of sets (walk_end next (get_or singles q 0) w)) 0);
  count = total (λ q. cond (has run q) (walk_count next (get_or singles q 0) w) 0) most_states;
  bytes = length w;
  looked = greatest (λ q. cond (has run q) (walk_looked next (get_or singles q 0) w) 0) most_states;
}

abbrev pub start_rows : List ℕ → ℕ → List ℕ
start_rows singles run = list_from 0 most_states (λ q. cond (has run q) (row_of (get_or singles q 0)) empty_row)

abbrev pub end_masks : List ℕ → List ℕ → List ℕ
end_masks sets rows = list_from 0 most_states (λ q. mask_of sets (get_or rows q 0 / most_symbols))

abbrev pub delegate_mask : List ℕ → ℕ → ℕ → ℕ
delegate_mask d n m = delegate_set d (min n most_states) m

abbrev pub run_mask : List ℕ → ℕ → ℕ → ℕ → ℕ
run_mask d n m place = run_set d (min n most_states) m place
