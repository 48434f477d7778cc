-- The laws of tables of row offsets. Assumes nothing.
--
--   filled_table              an array filled with row offsets is the table
--   row_table                 which is a table of row offsets
--   hop_low, hop_stays        no step leads past the empty set's row, which leads to itself
--   hop_set, hop_empty        a step from the row of a set, and from that of the empty set
--   rows_low                  where walks end there are row offsets again
use mathlib.Core.Path.{◌≡◌, sym, ◌∙◌}
use mathlib.Core.Bool.{cond}
use mathlib.Core.List.{List}
use Prim.Native.Nat.{ℕ, ◌+◌, ◌*◌, ◌%◌, ◌≤◌, ◌<◌}
use native.Mathlib.Omega.{arith}
use borrow.Author.Tests.{lt-ltb, le-ltb, ltb-true, ltb-false}
use lib.Dec.{ltb}
use lib.ListN.{length, get_or, get_or-eq_default}
use Rattle.base.proofs.Lists.{length_list_from, cell_of_lem, is_list_from}
use Rattle.base.proofs.Tests.{by_test}
use Rattle.walks.proofs.Steps.{end_low}
use Rattle.lanes.specs.mirror.Offsets.{row_of, offsets_of, hop_of, row_end, rows_end, RowTable, Rows}

-- ---- cells of the table
module _ (next : List ℕ) where
  abbrev cell : ℕ → ℕ
  cell c = cond (ltb c 8192) (row_of (get_or next c 0)) 8192

  set_cell : (c : ℕ) → c < 8192 → cell c ≡ row_of (get_or next c 0)
  set_cell c h = rw (lt-ltb c 8192 h)

  empty_cell : (c : ℕ) → 8192 ≤ c → cell c ≡ 8192
  empty_cell c h = rw (le-ltb c 8192 h)

  pub filled_table : (t : List ℕ) → length t ≡ 8208 → ((c : ℕ) → c < 8192 → get_or t c 0 ≡ row_of (get_or next c 0))
      → ((c : ℕ) → 8192 ≤ c → c < 8208 → get_or t c 0 ≡ 8192) → t ≡ offsets_of next
  unfolding offsets_of
  filled_table t size sets empties =
      is_list_from t 8208 cell size
      (λ c h.
      by_test (ltb c 8192)
      (λ b. let l = ltb-true c 8192 b in sets c l ∙ sym (set_cell c l))
      (λ b. let l = ltb-false c 8192 b in empties c l h ∙ sym (empty_cell c l)))

  at : (c : ℕ) → c < 8208 → get_or (offsets_of next) c 0 ≡ cell c
  unfolding offsets_of
  at c h = cell_of_lem 8208 cell c 0 h

  size : length (offsets_of next) ≡ 8208
  unfolding offsets_of
  size = length_list_from 0 8208 cell

  low : (c : ℕ) → get_or (offsets_of next) c 0 ≤ 8192
  low c =
      by_test (ltb c 8192)
      (λ b. let l = ltb-true c 8192 b in omega (arith, at c (omega arith), set_cell c l))
      (λ b.
      let l = ltb-false c 8192 b in
      by_test (ltb c 8208)
      (λ d. omega (arith, at c (ltb-true c 8208 d), empty_cell c l))
      (λ d. omega (arith, get_or-eq_default (offsets_of next) 0 {n = c} (omega (arith, size, ltb-false c 8208 d)))))

  pub row_table : RowTable (offsets_of next)
  row_table = record { size = size; low = low; stays = λ c h l. at c l ∙ empty_cell c h }

  -- ---- a step
  pub hop_set : (i b : ℕ) → i < 512 → hop_of (offsets_of next) (row_of i) b ≡ row_of (get_or next (i * 16 + b % 16) 0)
  hop_set i b h =
      let e : b % 16 + row_of i ≡ i * 16 + b % 16 = omega arith in
      rw e (at (i * 16 + b % 16) (omega arith) ∙ set_cell (i * 16 + b % 16) (omega arith))

  pub hop_empty : (i b : ℕ) → 512 ≤ i → hop_of (offsets_of next) (row_of i) b ≡ 8192
  hop_empty i b h =
      let e : b % 16 + row_of i ≡ 8192 + b % 16 = omega arith in
      rw e (at (8192 + b % 16) (omega arith) ∙ empty_cell (8192 + b % 16) (omega arith))

module _ (t : List ℕ) (table : RowTable t) where
  pub hop_low : (r b : ℕ) → hop_of t r b ≤ 8192
  hop_low r b = table.low (b % 16 + r)

  pub hop_stays : (b : ℕ) → hop_of t 8192 b ≡ 8192
  hop_stays b = table.stays (b % 16 + 8192) (omega arith) (omega arith)

  pub rows_low : (w rows : List ℕ) (n : ℕ) → Rows rows → Rows (rows_end t w rows n)
  rows_low w rows n low k =
      by_test (ltb k n)
      (λ b.
      let here = cell_of_lem n (λ q. row_end t w (get_or rows q 0)) k 0 (ltb-true k n b) in
      rw here (end_low (hop_of t) 8192 hop_low hop_stays (get_or rows k 0) w (low k)))
      (λ b.
      let past = ltb-false k n b in
      let long = length_list_from 0 n (λ q. row_end t w (get_or rows q 0)) in
      omega (arith, get_or-eq_default (rows_end t w rows n) 0 {n = k} (omega arith)))
