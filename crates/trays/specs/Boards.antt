-- The board of a tray: for each band whether it is there, how many rows it has, and its bytes as
-- they came. Any value of any field is a board: a filled mark is a number, 0 for empty; a number of
-- bands above 8 counts as 8, one of rows above 64 as 64, and a width outside 1 to 16 as the nearest
-- of these. So a row is never cut off, and nothing is read beyond the cells.
--
--   width_of b, bands_of b  how many events a row has, and how many bands there are
--   count_in rows p        how many rows band p has, by the array of these numbers
--   band_in w rows cells p  the rows of band p, by the board's arrays
--   band_rows b p          the rows of band p
--   is_empty b p            band p is not there
--   empty_board w n        n bands of rows of w events, all empty; `empty_board 0 0` is no board
--   band_set cells p bytes  the cells with those of band p having the bytes, and zeros behind them
--   filled_at b p bytes    band p has the bytes, which may be none
--   cleared_at b p         band p is empty, with no rows and zeros
--   empty_bands b          how many bands are empty
--   rows_held b            the rows of all bands, in their order
use Rattle.std.specs.Prelude.{Bool, cond, List, [], ℕ, ◌*◌, ◌/◌, ◌%◌, min, max, eqb, length, get_or, set, replicate, drop}
use Rattle.base.specs.Lists.{list_from}
use Rattle.base.specs.Totals.{total}
use Rattle.trays.specs.declared.TrayBoard.{TrayBoard}
use Rattle.trays.specs.Sizes.{most_width, most_bands, most_rows, band_cells, tray_cells}
use Rattle.trays.specs.Rows.{rows_of, rows_up_to}

abbrev pub width_of : TrayBoard → ℕ
width_of b = max 1 (min b.width most_width)

abbrev pub bands_of : TrayBoard → ℕ
bands_of b = min b.bands most_bands

abbrev pub count_in : List ℕ → ℕ → ℕ
count_in rows p = min (get_or rows p 0) most_rows

abbrev pub band_in : ℕ → List ℕ → List ℕ → ℕ → List (List ℕ)
band_in w rows cells p = rows_of w (count_in rows p) (drop (p * band_cells) cells)

abbrev pub band_rows : TrayBoard → ℕ → List (List ℕ)
band_rows b p = band_in (width_of b) b.rows b.cells p

abbrev pub is_empty : TrayBoard → ℕ → Bool
is_empty b p = eqb (get_or b.filled p 0) 0

unfoldable pub empty_board : ℕ → ℕ → TrayBoard
empty_board w n = record {
  width = w;
  bands = n;
  filled = replicate most_bands 0;
  rows = replicate most_bands 0;
  cells = replicate tray_cells 0;
}

-- the 1,024 cells of band p have the bytes and then zeros, the others stay
abbrev pub band_set : List ℕ → ℕ → List ℕ → List ℕ
band_set cells p bytes =
    list_from 0 tray_cells (λ cell. cond (eqb (cell / band_cells) p) (get_or bytes (cell % band_cells) 0) (get_or cells cell 0))

unfoldable pub filled_at : TrayBoard → ℕ → List ℕ → TrayBoard
filled_at b p bytes = record {
  width = b.width;
  bands = b.bands;
  filled = set b.filled p 1;
  rows = set b.rows p (length bytes / width_of b);
  cells = band_set b.cells p bytes;
}

unfoldable pub cleared_at : TrayBoard → ℕ → TrayBoard
cleared_at b p = record {
  width = b.width;
  bands = b.bands;
  filled = set b.filled p 0;
  rows = set b.rows p 0;
  cells = band_set b.cells p [];
}

unfoldable pub empty_bands : TrayBoard → ℕ
empty_bands b = total (λ p. cond (is_empty b p) 1 0) (bands_of b)

abbrev pub rows_held : TrayBoard → List (List ℕ)
rows_held b = rows_up_to (band_rows b) (bands_of b)
