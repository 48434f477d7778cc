-- Tables of row offsets. A next-set table has a row of 16 cells for each set; here a cell has, in
-- place of the number of a set, the place where its row begins, so that the next cell to read is
-- one sum away. The empty set has a row too, behind the others, which leads to itself: a run that
-- has died needs no test. Nothing here needs to be believed: the crate chunks ties it to the
-- next-set table. A lane is where one of several runs stands that walk together.
--
--   empty_row           the row offset of the empty set
--   offset_cells        the cells of a table of row offsets: a row for each set, and one for the
--                       empty set
--   lane_count          how many runs walk together
--   row_of i             the row offset of set i; any number from 512 on stands for the empty set
--   offsets_of next     the next-set table with row offsets, and with the empty set's row
--   hop_of t r b        the row offset to which the byte b leads from the row offset r
--   row_end, row_count, row_looked  a walk over the bytes w from the row offset r: where it ends, how
--                       many of its steps lead to a set that is not empty, and for how many bytes
--                       it looks a successor up
--   rows_end, rows_count  the same of each of n row offsets, as an array
--   rows_looked         for how many bytes any of these walks looks a successor up
--   RowTable t          t is a table of row offsets: no cell leads past the empty set's row, which
--                       leads to itself
--   Rows rows           each of them is the empty set's row offset or less
--   Living lane r       r is one of eight lanes that is not empty, and not the first; it is 8 where
--                       there is none
use Rattle.std.specs.Prelude.{◌≡◌, cond, List, ℕ, ◌+◌, ◌*◌, ◌%◌, ◌≤◌, ◌<◌, min, ltb, length, get_or}
use Rattle.limits.specs.Limits.{most_symbols, empty_set, table_cells}
use Rattle.base.specs.Lists.{list_from}
use Rattle.base.specs.Totals.{greatest}
use Rattle.walks.specs.mirror.Steps.{end_by, count_by, looked_by}

abbrev pub empty_row : ℕ
empty_row = table_cells

abbrev pub offset_cells : ℕ
offset_cells = table_cells + most_symbols

abbrev pub lane_count : ℕ
lane_count = 8

abbrev pub row_of : ℕ → ℕ
row_of i = min i empty_set * most_symbols

unfoldable pub offsets_of : List ℕ → List ℕ
offsets_of next = list_from 0 offset_cells (λ c. cond (ltb c table_cells) (row_of (get_or next c 0)) empty_row)

abbrev pub hop_of : List ℕ → ℕ → ℕ → ℕ
hop_of t r b = get_or t (b % most_symbols + r) 0

abbrev pub row_end : List ℕ → List ℕ → ℕ → ℕ
row_end t w r = end_by (hop_of t) r w

abbrev pub row_count : List ℕ → List ℕ → ℕ → ℕ
row_count t w r = count_by (hop_of t) empty_row r w

abbrev pub row_looked : List ℕ → List ℕ → ℕ → ℕ
row_looked t w r = looked_by (hop_of t) empty_row r w

abbrev pub rows_end : List ℕ → List ℕ → List ℕ → ℕ → List ℕ
rows_end t w rows n = list_from 0 n (λ k. row_end t w (get_or rows k 0))

abbrev pub rows_count : List ℕ → List ℕ → List ℕ → ℕ → List ℕ
rows_count t w rows n = list_from 0 n (λ k. row_count t w (get_or rows k 0))

abbrev pub rows_looked : List ℕ → List ℕ → List ℕ → ℕ → ℕ
rows_looked t w rows n = greatest (λ k. row_looked t w (get_or rows k 0)) n

pub record RowTable (t : List ℕ) : Type 0 where
  pub size : length t ≡ offset_cells
  pub low : (c : ℕ) → get_or t c 0 ≤ empty_row
  pub stays : (c : ℕ) → empty_row ≤ c → c < offset_cells → get_or t c 0 ≡ empty_row

abbrev pub Rows : List ℕ → Type 0
Rows rows = (k : ℕ) → get_or rows k 0 ≤ empty_row

pub record Living (lane : List ℕ) (r : ℕ) : Type 0 where
  pub most : r ≤ lane_count
  pub later : 1 ≤ r
  pub lives : r < lane_count → get_or lane r 0 < empty_row
  pub none : r ≡ lane_count → (k : ℕ) → 1 ≤ k → k < lane_count → empty_row ≤ get_or lane k 0
