-- The board (document 01, "The board and its calls"): for each place whether it is filled, the
-- count and the length of its chunk, the end set of each state, and the last revision that was
-- accepted there (document 02, R-11). Any value of any field is a board: a filled mark is a number,
-- 0 for empty, a number of places above 64 counts as 64, and a revision is kept as one more than it
-- is, so that 0 is none.
--
--   places_of b         the number of places
--   held_in ends p q   the end set of state q at place p, in an array with 32 cells a place
--   held b p q         the same on the board b
--   is_empty b p        place p has no chunk
--   last_at b p         one more than the last revision accepted at place p, 0 where there was none
--   comes_late b p v   the revision v is not greater than the last one accepted at place p
--   empty_board n      n places, all empty, no revision accepted anywhere
--   row_set ends p g    the end sets with those of place p as g has them
--   filled_at b p v s  place p holds the end sets, the count and the length that the runs s have,
--                      which may be those of an empty chunk, and the revision v
--   cleared_at b p     place p is empty, its end sets empty, its count and its length 0; its
--                      revision stays
--   empty_places b     how many places are empty
--   summed_count b     the sum of the counts over all places
--   summed_bytes b     the sum of the lengths over all places
use Rattle.std.specs.Prelude.{Bool, cond, List, ℕ, ◌+◌, ◌*◌, ◌/◌, ◌%◌, min, eqb, ltb, get_or, set, replicate}
use Rattle.limits.specs.Limits.{most_states, most_places, end_cells}
use Rattle.base.specs.Lists.{list_from}
use Rattle.base.specs.Totals.{total}
use Rattle.chunks.specs.declared.Runs.{Runs}
use Rattle.board.specs.declared.Board.{Board}

abbrev pub places_of : Board → ℕ
places_of b = min b.places most_places

abbrev pub held_in : List ℕ → ℕ → ℕ → ℕ
held_in ends p q = get_or ends (p * most_states + q) 0

abbrev pub held : Board → ℕ → ℕ → ℕ
held b = held_in b.ends

abbrev pub is_empty : Board → ℕ → Bool
is_empty b p = eqb (get_or b.filled p 0) 0

abbrev pub last_at : Board → ℕ → ℕ
last_at b p = get_or b.revisions p 0

abbrev pub comes_late : Board → ℕ → ℕ → Bool
comes_late b p v = ltb v (last_at b p)

unfoldable pub empty_board : ℕ → Board
empty_board n = record {
  places = n;
  filled = replicate most_places 0;
  counts = replicate most_places 0;
  lengths = replicate most_places 0;
  revisions = replicate most_places 0;
  ends = replicate end_cells 0;
}

-- the 32 cells of place p have the values g, the others stay
abbrev pub row_set : List ℕ → ℕ → (ℕ → ℕ) → List ℕ
row_set ends p g = list_from 0 end_cells (λ cell. cond (eqb (cell / most_states) p) (g (cell % most_states)) (get_or ends cell 0))

unfoldable pub filled_at : Board → ℕ → ℕ → Runs → Board
filled_at b p v s = record {
  places = b.places;
  filled = set b.filled p 1;
  counts = set b.counts p s.count;
  lengths = set b.lengths p s.bytes;
  revisions = set b.revisions p (v + 1);
  ends = row_set b.ends p (λ q. get_or s.ends q 0);
}

unfoldable pub cleared_at : Board → ℕ → Board
cleared_at b p = record {
  places = b.places;
  filled = set b.filled p 0;
  counts = set b.counts p 0;
  lengths = set b.lengths p 0;
  revisions = b.revisions;
  ends = row_set b.ends p (λ q. 0);
}

unfoldable pub empty_places : Board → ℕ
empty_places b = total (λ p. cond (is_empty b p) 1 0) (places_of b)

unfoldable pub summed_count : Board → ℕ
summed_count b = total (λ p. get_or b.counts p 0) (places_of b)

unfoldable pub summed_bytes : Board → ℕ
summed_bytes b = total (λ p. get_or b.lengths p 0) (places_of b)
