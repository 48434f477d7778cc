-- The limits of a tray (document 02, R-13), and the sizes of arrays that follow from them.
-- src/lib.rt has them for code.
--
--   most_width   the most events of a row
--   most_bands   the most bands of a tray
--   most_rows    the most rows of a band
--   band_cells   the most bytes of a band, and the cells that are kept for each
--   tray_cells   the cells of a tray's bands
use Rattle.std.specs.Prelude.{ℕ, ◌*◌}

abbrev pub most_width : ℕ
most_width = 16

abbrev pub most_bands : ℕ
most_bands = 8

abbrev pub most_rows : ℕ
most_rows = 64

abbrev pub band_cells : ℕ
band_cells = most_rows * most_width

abbrev pub tray_cells : ℕ
tray_cells = most_bands * band_cells
