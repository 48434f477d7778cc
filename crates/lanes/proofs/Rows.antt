-- Several runs over two parts of a text, one after the other. Assumes a table of row offsets.
--
--   rows_at          where the run k ends
--   ends_append      where they end
--   counts_append    what each of them counts
--   looked_append    for how many bytes any of them looks a successor up
use mathlib.Core.Path.{◌≡◌, sym, ap, ◌∙◌}
use mathlib.Core.List.{List, ◌++◌}
use Prim.Native.Nat.{ℕ, ◌+◌, ◌<◌}
use native.Mathlib.Omega.{arith}
use borrow.Author.Tests.{ltb-true, ltb-false}
use lib.Dec.{ltb}
use lib.ListN.{length, get_or}
use Rattle.base.specs.Lists.{list_from}
use Rattle.base.proofs.Lists.{cell_of_lem, same_list}
use Rattle.base.proofs.Tests.{by_test}
use Rattle.base.proofs.Totals.{greatest_same, greatest_sum}
use Rattle.walks.proofs.Steps as walks
use Rattle.lanes.specs.mirror.Offsets.{hop_of, row_end, row_count, row_looked, rows_end, rows_count, rows_looked, RowTable, Rows}
use Rattle.lanes.proofs.Offsets.{hop_low, hop_stays}

module _ (t w rows : List ℕ) (n : ℕ) where
  pub rows_at : (k : ℕ) → k < n → get_or (rows_end t w rows n) k 0 ≡ row_end t w (get_or rows k 0)
  rows_at k h = cell_of_lem n (λ q. row_end t w (get_or rows q 0)) k 0 h

module _ (t : List ℕ) (table : RowTable t) (v w rows : List ℕ) (n : ℕ) where
  pub ends_append : rows_end t (v ++ w) rows n ≡ rows_end t w (rows_end t v rows n) n
  ends_append =
      same_list n (λ k. row_end t (v ++ w) (get_or rows k 0)) (λ k. row_end t w (get_or (rows_end t v rows n) k 0))
      (λ k h. walks.end_append (hop_of t) (get_or rows k 0) v w ∙ ap (row_end t w) (sym (rows_at t v rows n k h)))

  pub counts_append : rows_count t (v ++ w) rows n ≡ list_from 0 n (λ k. get_or (rows_count t v rows n) k 0 + get_or (rows_count t w (rows_end t v rows n) n) k 0)
  counts_append =
      same_list n
      (λ k. row_count t (v ++ w) (get_or rows k 0))
      (λ k. get_or (rows_count t v rows n) k 0 + get_or (rows_count t w (rows_end t v rows n) n) k 0)
      (λ k h.
      let first = cell_of_lem n (λ q. row_count t v (get_or rows q 0)) k 0 h in
      let second = cell_of_lem n (λ q. row_count t w (get_or (rows_end t v rows n) q 0)) k 0 h in
      let from = ap (row_count t w) (rows_at t v rows n k h) in
      omega (arith, walks.count-append (hop_of t) 8192 (get_or rows k 0) v w))

  pub looked_append : Rows rows → rows_looked t (v ++ w) rows n ≡ rows_looked t v rows n + rows_looked t w (rows_end t v rows n) n
  looked_append low =
      greatest_same (λ k. row_looked t (v ++ w) (get_or rows k 0)) (λ k. first k + second k) n
      (λ k h. walks.looked_append (hop_of t) 8192 (hop_low t table) (hop_stays t table) (get_or rows k 0) v w (low k))
      ∙ greatest_sum first second (length v) (λ k. walks.looked_most (hop_of t) 8192 (get_or rows k 0) v) full n
      ∙ ap (λ (x : ℕ). rows_looked t v rows n + x)
      (greatest_same second (λ k. row_looked t w (get_or (rows_end t v rows n) k 0)) n
      (λ k h. ap (row_looked t w) (sym (rows_at t v rows n k h))))
    where
      first : ℕ → ℕ
      first k = row_looked t v (get_or rows k 0)

      second : ℕ → ℕ
      second k = row_looked t w (row_end t v (get_or rows k 0))

      full : (k : ℕ) → 0 < second k → first k ≡ length v
      full k some =
          let end = row_end t v (get_or rows k 0) in
          by_test (ltb end 8192)
          (λ b. walks.looked_alive (hop_of t) 8192 (hop_low t table) (hop_stays t table) (get_or rows k 0) v (low k) (ltb-true end 8192 b))
          (λ b. absurd (omega (arith, walks.looked_empty (hop_of t) 8192 end w (ltb-false end 8192 b))))
