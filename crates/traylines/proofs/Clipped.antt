-- A file or a band that is too long is refused by its length alone, so the first of its bytes stand
-- for all. Assumes nothing.
--
--   rows_long, columns_long      a file that is too long
--   many_rows, delivers_long     a band that is
--   clip        where two that are too long come to the same, the first bytes, one more than the most
--               at least, come to what all of them come to
use mathlib.Core.Path.{◌≡◌, refl, ap}
use mathlib.Core.Bool.{Bool, true, false, cond}
use mathlib.Core.List.{List}
use mathlib.Core.Option.{some}
use Prim.Native.Nat.{ℕ, ◌+◌, ◌≤◌, ◌<◌}
use native.Mathlib.Omega.{arith}
use borrow.Author.Tests.{ltb-true, ltb-false}
use lib.Dec.{ltb, leb}
use lib.ListN.{length, take}
use lib.Seq.{take_all, length-take-le}
use Rattle.base.proofs.Tests.{by_test}
use Rattle.callrun.proofs.Clipped.{long_load}
use Rattle.trays.specs.declared.Tray.{Tray}
use Rattle.trays.specs.declared.TrayBoard.{TrayBoard}
use Rattle.trays.specs.Calls.{not_rows}
use Rattle.trays.specs.Boards.{width_of, bands_of}
use Rattle.trays.specs.mirror.Steps.{outcome_by, lacks_board, deliver_of}
use Rattle.trays.specs.Replies.{Reply}
use Rattle.trays.proofs.Bands.{rows_fit}
use Rattle.trays.proofs.Passing.{whole_rows}
use Rattle.traylines.specs.Running.{load_row_of, load_column_of, load_of}

-- ---- a file
module _ (t : Tray) (f g : List ℕ) (hf : 32906 < length f) (hg : 32906 < length g) where
  pub rows_long : load_row_of t f ≡ load_row_of t g
  unfolding load_row_of
  rows_long = rw (long_load f hf, long_load g hg)

  pub columns_long : load_column_of t f ≡ load_column_of t g
  unfolding load_column_of
  columns_long = rw (long_load f hf, long_load g hg)

  pub loads_long : (rows : Bool) → load_of rows t f ≡ load_of rows t g
  loads_long true = rows_long
  loads_long false = columns_long

-- ---- a band: 64 rows of 16 events are 1,024 bytes
pub many_rows : (b : TrayBoard) (f : List ℕ) → 1024 < length f → not_rows (width_of b) f ≡ true
many_rows b f h =
    by_test (not_rows (width_of b) f)
    (λ e. e)
    (λ e.
    let k = (whole_rows (width_of b) f (omega arith)).0 e in
    absurd (omega (arith, k.2, rows_fit k.0 (width_of b) k.1 (omega arith))))

by_39 : (a b : Bool) (x y : Reply) (t next next' : Tray)
    → outcome_by (cond a (some 21) (cond b (some 11) (some 39))) x t next ≡ outcome_by (cond a (some 21) (cond b (some 11) (some 39))) y t next'
by_39 true b x y t next next' = refl
by_39 false true x y t next next' = refl
by_39 false false x y t next next' = refl

pub delivers_long : (t : Tray) (p : ℕ) (f g : List ℕ) → 1024 < length f → 1024 < length g → deliver_of t p f ≡ deliver_of t p g
unfolding deliver_of
delivers_long t p f g hf hg =
    rw (many_rows t.board f hf, many_rows t.board g hg) (by_39 (lacks_board t) (leb (bands_of t.board) p) _ _ t _ _)

pub clip : {A : Type 0} (most : ℕ) (h : List ℕ → A) → ((f g : List ℕ) → most < length f → most < length g → h f ≡ h g)
    → (f : List ℕ) (n : ℕ) → most + 1 ≤ n → h (take n f) ≡ h f
clip most h same f n enough =
    by_test (ltb n (length f))
    (λ t.
    let more = ltb-true n (length f) t in
    same (take n f) f (omega (arith, length-take-le n f (omega (arith, more)))) (omega (arith, more)))
    (λ t. ap h (take_all n f (ltb-false n (length f) t)))
