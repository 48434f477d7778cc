-- The runs of a chunk over row offsets are those of `runs_of`. Assumes nothing.
--
--   start_low             the rows from which a chunk is run are row offsets
--   ends, counted, looks  the end set of each state, the sum of the counts and the bytes looked up
--   runs_are              a value with these fields is `runs_of`
--   runs_none             where no state is run, zeros
use mathlib.Core.Path.{◌≡◌, refl, ap, ◌∙◌}
use mathlib.Core.Bool.{cond}
use mathlib.Core.List.{List}
use Prim.Native.Nat.{ℕ, ◌/◌, ◌≤◌, ◌<◌}
use native.Mathlib.Omega.{arith}
use borrow.Author.Tests.{ltb-true, ltb-false}
use lib.Dec.{ltb}
use lib.ListN.{length, get_or, replicate, get_or-eq_default}
use Rattle.base.specs.Lists.{list_from}
use Rattle.base.specs.Totals.{total, greatest}
use Rattle.base.proofs.Lists.{length_list_from, cell_of_lem, same_list}
use Rattle.base.proofs.Tests.{by_test, either}
use Rattle.base.proofs.Totals.{total_same, greatest_same}
use Rattle.masks.specs.Masks.{has}
use Rattle.walks.proofs.Steps as walks
use Rattle.lanes.specs.mirror.Offsets.{row_of, offsets_of, hop_of, row_end, row_count, row_looked, rows_end, rows_count, rows_looked, Rows}
use Rattle.lanes.proofs.Offsets.{row_table, hop_low, hop_stays}
use Rattle.lanes.proofs.Rows.{rows_at}
use Rattle.chunks.specs.declared.Runs.{Runs}
use Rattle.chunks.specs.mirror.Walks.{walk_end, walk_count, walk_looked, mask_of, runs_of, start_rows, end_masks}
use Rattle.chunks.proofs.Walks.{row_end_lem, row_count_lem, row_looked_lem}

-- ---- where the runs begin
abbrev pub start_row : List ℕ → ℕ → ℕ → ℕ
start_row singles run q = cond (has run q) (row_of (get_or singles q 0)) 8192

row_low : (singles : List ℕ) (run q : ℕ) → start_row singles run q ≤ 8192
row_low singles run q = either (has run q) (λ b. cond b (row_of (get_or singles q 0)) 8192 ≤ 8192) (omega arith) (omega arith)

pub start_low : (singles : List ℕ) (run : ℕ) → Rows (start_rows singles run)
start_low singles run q =
    by_test (ltb q 32)
    (λ b. rw (cell_of_lem 32 (start_row singles run) q 0 (ltb-true q 32 b)) (row_low singles run q))
    (λ b.
    let past = ltb-false q 32 b in
    let long = length_list_from 0 32 (start_row singles run) in
    omega (arith, get_or-eq_default (start_rows singles run) 0 {n = q} (omega arith)))

-- the set that the row offset of set i stands for has the mask of set i
row_mask : (sets : List ℕ) (i : ℕ) → mask_of sets (row_of i / 16) ≡ mask_of sets i
row_mask sets i =
    by_test (ltb i 512)
    (λ t. let e : row_of i / 16 ≡ i = omega (arith, ltb-true i 512 t) in ap (mask_of sets) e)
    (λ t.
    let e : row_of i / 16 ≡ 512 = omega (arith, ltb-false i 512 t) in
    rw (e, t))

module _ (sets next singles : List ℕ) (run : ℕ) (w : List ℕ) where
  abbrev t : List ℕ
  t = offsets_of next

  abbrev from : List ℕ
  from = start_rows singles run

  start : (q : ℕ) → q < 32 → get_or from q 0 ≡ start_row singles run q
  start q h = cell_of_lem 32 (start_row singles run) q 0 h

  -- a state that is not run has the empty set, whose walk ends there and comes to nothing
  end_of_lem : (q : ℕ) → mask_of sets (row_end t w (start_row singles run q) / 16) ≡ cond (has run q) (mask_of sets (walk_end next (get_or singles q 0) w)) 0
  end_of_lem q =
      let i = get_or singles q 0 in
      either (has run q) (λ b. mask_of sets (row_end t w (cond b (row_of i) 8192) / 16) ≡ cond b (mask_of sets (walk_end next i w)) 0)
      (rw (row_end_lem next i w) (row_mask sets (walk_end next i w)))
      (rw (walks.end_empty (hop_of t) 8192 (hop_low t (row_table next)) (hop_stays t (row_table next)) w))

  count_of_lem : (q : ℕ) → row_count t w (start_row singles run q) ≡ cond (has run q) (walk_count next (get_or singles q 0) w) 0
  count_of_lem q =
      let i = get_or singles q 0 in
      either (has run q) (λ b. row_count t w (cond b (row_of i) 8192) ≡ cond b (walk_count next i w) 0)
      (row_count_lem next i w)
      (walks.count_empty (hop_of t) 8192 (hop_low t (row_table next)) (hop_stays t (row_table next)) w)

  looked_of_lem : (q : ℕ) → row_looked t w (start_row singles run q) ≡ cond (has run q) (walk_looked next (get_or singles q 0) w) 0
  looked_of_lem q =
      let i = get_or singles q 0 in
      either (has run q) (λ b. row_looked t w (cond b (row_of i) 8192) ≡ cond b (walk_looked next i w) 0)
      (row_looked_lem next i w)
      (walks.looked_empty (hop_of t) 8192 8192 w (omega arith))

  pub ends : end_masks sets (rows_end t w from 32) ≡ (runs_of sets next singles run w).ends
  ends =
      same_list 32
      (λ q. mask_of sets (get_or (rows_end t w from 32) q 0 / 16))
      (λ q. cond (has run q) (mask_of sets (walk_end next (get_or singles q 0) w)) 0)
      (λ q h. ap (λ (r : ℕ). mask_of sets (r / 16)) (rows_at t w from 32 q h ∙ ap (row_end t w) (start q h)) ∙ end_of_lem q)

  pub counted : total (λ q. get_or (rows_count t w from 32) q 0) 32 ≡ (runs_of sets next singles run w).count
  counted =
      total_same
      (λ q. get_or (rows_count t w from 32) q 0)
      (λ q. cond (has run q) (walk_count next (get_or singles q 0) w) 0)
      32
      (λ q h. cell_of_lem 32 (λ j. row_count t w (get_or from j 0)) q 0 h ∙ ap (row_count t w) (start q h) ∙ count_of_lem q)

  pub looks : rows_looked t w from 32 ≡ (runs_of sets next singles run w).looked
  looks =
      greatest_same
      (λ q. row_looked t w (get_or from q 0))
      (λ q. cond (has run q) (walk_looked next (get_or singles q 0) w) 0)
      32
      (λ q h. ap (row_looked t w) (start q h) ∙ looked_of_lem q)

pub runs_are : {a b : List ℕ} {c d n x y : ℕ} → a ≡ b → c ≡ d → x ≡ y
    → ◌≡◌ {A = Runs} (record { ends = a; count = c; bytes = n; looked = x }) (record { ends = b; count = d; bytes = n; looked = y })
runs_are p q r = cc

pub runs_none : (sets next singles w : List ℕ)
    → ◌≡◌ {A = Runs} (record { ends = replicate 32 0; count = 0; bytes = length w; looked = 0 }) (runs_of sets next singles 0 w)
unfolding list_from total greatest
runs_none sets next singles w = refl
