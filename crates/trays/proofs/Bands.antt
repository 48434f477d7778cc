-- The laws of a tray's board, band by band: a new board, a board with one band changed, which filling
-- and clearing are, and how many bands are empty. Assumes the lengths of the arrays (`Sized`), which
-- a new board has and every change keeps.
--
--   band_own, band_other     the cells once a band is stored: its own, and those of any other
--   Sized                    the lengths of the arrays
--   sized_empty, empty_all, empty_rows   a new board: all bands empty, no rows
--   Changed                  one band has been changed, and the others are as before
--   filled_at_lem, cleared_at    filling and clearing change their band alone, and to what
--   few_rows, rows_fit       a band that 39 lets pass has at most 64 rows, and these fit its cells
--   empty_law, held_law      the empty bands and the rows held, from what is known of each band
use mathlib.Core.Path.{◌≡◌, refl, sym, ap, ◌∙◌}
use mathlib.Core.Bool.{Bool, true, false, cond, not}
use mathlib.Core.List.{List, []}
use Prim.Native.Nat.{ℕ, ◌+◌, ◌*◌, ◌/◌, ◌%◌, ◌≤◌, ◌<◌, min}
use native.Mathlib.Nat.{mul-le-mul, div-mul-le_self}
use native.Mathlib.Omega.{arith}
use lib.Dec.{eqb, ltb}
use lib.ListN.{length, get_or, set, replicate, drop, length-set, length-replicate, length-drop}
use lib.Seq.{get_or-set_same, get_or-set_other, get_or-drop}
use borrow.Author.Tests.{eq-eqb, ne_eqb, ltb-false}
use Rattle.base.specs.Totals.{total}
use Rattle.base.proofs.Lists.{cell_of_lem, length_list_from, zero_cells}
use Rattle.base.proofs.Tests.{or_right}
use Rattle.base.proofs.Totals.{total_same}
use Rattle.trays.specs.declared.TrayBoard.{TrayBoard}
use Rattle.trays.specs.Rows.{rows_of, rows_in, rows_up_to}
use Rattle.trays.specs.Calls.{not_rows}
use Rattle.trays.specs.Boards.{width_of, bands_of, count_in, band_rows, is_empty, empty_board, band_set, filled_at, cleared_at, empty_bands, rows_held}
use Rattle.trays.proofs.Rows.{rows_none, rows_same, up_to_same}

-- ---- the cells of bands
module _ (cells : List ℕ) (p : ℕ) (bytes : List ℕ) where
  abbrev cell_with : ℕ → ℕ
  cell_with cell = cond (eqb (cell / 1024) p) (get_or bytes (cell % 1024) 0) (get_or cells cell 0)

  pub band_length : length (band_set cells p bytes) ≡ 8192
  band_length = length_list_from 0 8192 cell_with

  pub band_cell : (c : ℕ) → c < 8192 → get_or (band_set cells p bytes) c 0 ≡ cell_with c
  band_cell c h = cell_of_lem 8192 cell_with c 0 h

  pub band_own : p < 8 → (i : ℕ) → i < 1024 → get_or (band_set cells p bytes) (p * 1024 + i) 0 ≡ get_or bytes i 0
  band_own h i l =
      let e : (p * 1024 + i) % 1024 ≡ i = omega arith in
      band_cell (p * 1024 + i) (omega arith) ∙ rw (eq-eqb ((p * 1024 + i) / 1024) p (omega arith), e)

  pub band_other : (q i : ℕ) → q < 8 → i < 1024 → (q ≡ p → ⊥) → get_or (band_set cells p bytes) (q * 1024 + i) 0 ≡ get_or cells (q * 1024 + i) 0
  band_other q i h l ne = band_cell (q * 1024 + i) (omega arith) ∙ rw (ne_eqb ((q * 1024 + i) / 1024) p (λ z. ne (omega arith)))

-- ---- boards
pub record Sized (b : TrayBoard) : Type 0 where
  pub filled_cells : length b.filled ≡ 8
  pub rows_cells : length b.rows ≡ 8
  pub cells-cells : length b.cells ≡ 8192

module _ (w n : ℕ) where
  pub sized_empty : Sized (empty_board w n)
  unfolding empty_board
  sized_empty = record {
    filled_cells = length-replicate {A = ℕ} 8 0;
    rows_cells = length-replicate {A = ℕ} 8 0;
    cells-cells = length-replicate {A = ℕ} 8192 0;
  }

  pub empty_all : (p : ℕ) → is_empty (empty_board w n) p ≡ true
  unfolding empty_board
  empty_all p = eq-eqb (get_or (replicate 8 0) p 0) 0 (zero_cells 8 p)

  pub empty_rows : (p : ℕ) → band_rows (empty_board w n) p ≡ []
  unfolding empty_board
  empty_rows p =
      let e : min (get_or (replicate 8 0) p 0) 64 ≡ 0 = omega (arith, zero_cells 8 p) in
      rw e (rows_none _ _)

-- a band that 39 lets pass has at most 64 rows
pub few_rows : (w : ℕ) (bytes : List ℕ) → not_rows w bytes ≡ false → length bytes / w ≤ 64
few_rows w bytes whole = ltb-false 64 (length bytes / w) (or_right (not (eqb (length bytes % w) 0)) (ltb 64 (length bytes / w)) whole)

-- the rows of a band are within its cells
pub rows_fit : (n w : ℕ) → n ≤ 64 → w ≤ 16 → n * w ≤ 1024
rows_fit n w h l = mul-le-mul h l

-- ---- one band changed
-- c is b but for band p: whether that is empty, and its rows, are as said
pub record Changed (b c : TrayBoard) (p : ℕ) (empty : Bool) (rows : List (List ℕ)) : Type 0 where
  pub sized : Sized c
  pub width_same : c.width ≡ b.width
  pub bands_same : c.bands ≡ b.bands
  pub empty_own : is_empty c p ≡ empty
  pub empty_other : (q : ℕ) → (q ≡ p → ⊥) → is_empty c q ≡ is_empty b q
  pub rows_own : band_rows c p ≡ rows
  pub rows_other : (q : ℕ) → q < 8 → (q ≡ p → ⊥) → band_rows c q ≡ band_rows b q

module _ (b : TrayBoard) (p : ℕ) (sized : Sized b) (h : p < 8) where
  -- behind the start of a band there are its 1,024 cells
  room : (cells : List ℕ) → length cells ≡ 8192 → (q : ℕ) → q < 8 → 1024 ≤ length (drop (q * 1024) cells)
  room cells l q m = rw (length-drop (q * 1024) cells) (omega arith)

  changed_at : (mark count : ℕ) (bytes : List ℕ) → count ≤ 64 → count * width_of b ≤ length bytes
      → Changed b (record {
        width = b.width;
        bands = b.bands;
        filled = set b.filled p mark;
        rows = set b.rows p count;
        cells = band_set b.cells p bytes;
      }) p (eqb mark 0) (rows_of (width_of b) count bytes)
  changed_at mark count bytes few long =
      let w : ℕ = width_of b in
      let narrow : w ≤ 16 = omega arith in
      let after : List ℕ = band_set b.cells p bytes in
      let size : length after ≡ 8192 = band_length b.cells p bytes in record {
        sized = record {
          filled_cells = length-set b.filled p mark ∙ sized.filled_cells;
          rows_cells = length-set b.rows p count ∙ sized.rows_cells;
          cells-cells = size;
        };
        width_same = refl;
        bands_same = refl;
        empty_own = ap (λ (x : ℕ). eqb x 0) (get_or-set_same b.filled p mark 0 (omega (arith, sized.filled_cells)));
        empty_other = λ q ne. ap (λ (x : ℕ). eqb x 0) (get_or-set_other b.filled p q mark 0 ne);
        rows_own =
            let is : get_or (set b.rows p count) p 0 ≡ count = get_or-set_same b.rows p count 0 (omega (arith, sized.rows_cells)) in
            let all : min (get_or (set b.rows p count) p 0) 64 ≡ count = omega arith in
            let fit = rows_fit count w few narrow in
            rw all
            (rows_same w count (drop (p * 1024) after) bytes (omega (arith, fit, room after size p h)) long
            (λ i l. get_or-drop (p * 1024) after i 0 ∙ band_own b.cells p bytes h i (omega (arith, fit, l))));
        rows_other = λ q m ne.
            let fit = rows_fit (count_in b.rows q) w (omega arith) narrow in
            rw (get_or-set_other b.rows p q count 0 ne)
            (rows_same w (count_in b.rows q) (drop (q * 1024) after) (drop (q * 1024) b.cells)
            (omega (arith, fit, room after size q m)) (omega (arith, fit, room b.cells sized.cells-cells q m))
            (λ i l.
            get_or-drop (q * 1024) after i 0 ∙ band_other b.cells p bytes q i m (omega (arith, fit, l)) ne
            ∙ sym (get_or-drop (q * 1024) b.cells i 0)));
      }

  -- a band that 39 lets pass
  pub filled_at_lem : (bytes : List ℕ) → not_rows (width_of b) bytes ≡ false → Changed b (filled_at b p bytes) p false (rows_in (width_of b) bytes)
  unfolding filled_at
  filled_at_lem bytes whole =
      changed_at 1 (length bytes / width_of b) bytes
      (few_rows (width_of b) bytes whole)
      (div-mul-le_self (length bytes) (width_of b))

  pub cleared_at_lem : Changed b (cleared_at b p) p true []
  unfolding cleared_at rows_of
  cleared_at_lem = changed_at 0 0 [] (omega arith) (omega arith)

-- ---- all bands
module _ (b : TrayBoard) where
  pub empty_law : (f : ℕ → Bool) → ((p : ℕ) → p < bands_of b → is_empty b p ≡ f p) → empty_bands b ≡ total (λ p. cond (f p) 1 0) (bands_of b)
  unfolding empty_bands
  empty_law f h = total_same (λ p. cond (is_empty b p) 1 0) (λ p. cond (f p) 1 0) (bands_of b) (λ p l. ap (λ (t : Bool). cond t 1 0) (h p l))

  pub held_law : (f : ℕ → List (List ℕ)) → ((p : ℕ) → p < bands_of b → band_rows b p ≡ f p) → rows_held b ≡ rows_up_to f (bands_of b)
  held_law f h = up_to_same (band_rows b) f (bands_of b) h
