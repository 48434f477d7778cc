-- Runs over a text, part by part. Assumes a table of row offsets.
--
--   walked_is              a value with these three fields is `walked_of`
--   then_walked            one part and then another is both, joined
--   walked_none, walked_empty   over no bytes the runs stand where they stood, and count nothing
--   all-empty              where a part looks nothing up every run has died
--   walked_idle            from there on nothing changes
--   counts_small, looked_small   no count, and no number of bytes looked up, is above the text's
--                          length
--   block_on, block_last   one block more, and one that looked nothing up
use mathlib.Core.Path.{◌≡◌, refl, sym, ap, ◌∙◌}
use mathlib.Core.List.{List, [], ◌∷◌, ◌++◌}
use Prim.Native.Nat.{ℕ, ◌+◌, ◌-◌, ◌≤◌, ◌<◌}
use native.Mathlib.Omega.{arith}
use borrow.Author.Tests.{ltb-true, ltb-false}
use lib.Dec.{ltb}
use lib.ListN.{length, get_or, take, drop, replicate, length-take, length-drop, length-replicate, take-append-drop, get_or-eq_default}
use lib.Seq.{take-add, take-length}
use Rattle.base.proofs.Lists.{length_list_from, cell_of_lem, is_list_from, same_list, zero_cells}
use Rattle.base.proofs.Tests.{by_test}
use Rattle.base.proofs.Totals.{greatest_most, term_greatest}
use Rattle.walks.specs.mirror.Steps.{end_by, count_by, looked_by}
use Rattle.walks.proofs.Steps.{end_empty, count_empty, count_most, looked_most, looked_empty, looked_some}
use Rattle.lanes.specs.mirror.Offsets.{hop_of, row_end, row_count, row_looked, rows_end, rows_count, rows_looked, RowTable, Rows}
use Rattle.lanes.proofs.Offsets.{hop_low, hop_stays, rows_low}
use Rattle.lanes.proofs.Rows.{rows_at, ends_append, counts_append, looked_append}
use Rattle.blocks.specs.declared.Walked.{Walked}
use Rattle.blocks.specs.mirror.Blocks.{walked_of, then_of}

pub walked_is : {a b c d : List ℕ} {m n : ℕ} → a ≡ b → c ≡ d → m ≡ n
    → ◌≡◌ {A = Walked} (record { rows = a; counts = c; looked = m }) (record { rows = b; counts = d; looked = n })
walked_is p q r = cc

pub then_walked : (t : List ℕ) → RowTable t → (v w rows : List ℕ) → Rows rows
    → then_of (walked_of t v rows) (walked_of t w (rows_end t v rows 32)) ≡ walked_of t (v ++ w) rows
then_walked t table v w rows low =
    walked_is (sym (ends_append t table v w rows 32)) (sym (counts_append t table v w rows 32)) (sym (looked_append t table v w rows 32 low))

pub walked_none : (t rows : List ℕ) → length rows ≡ 32 → record { rows = rows; counts = replicate 32 0; looked = 0 } ≡ walked_of t [] rows
unfolding end_by count_by looked_by
walked_none t rows size =
    walked_is
    (is_list_from rows 32 (λ j. row_end t [] (get_or rows j 0)) size (λ j h. refl))
    (is_list_from (replicate 32 0) 32 (λ j. row_count t [] (get_or rows j 0)) (length-replicate {A = ℕ} 32 0) (λ j h. zero_cells 32 j))
    (let none = greatest_most (λ j. row_looked t [] (get_or rows j 0)) 0 32 (λ j h. omega arith) in omega arith)

pub walked_empty : (t w rows : List ℕ) → length rows ≡ 32 → length w ≡ 0 → record { rows = rows; counts = replicate 32 0; looked = 0 } ≡ walked_of t w rows
walked_empty t [] rows size none = walked_none t rows size
walked_empty t (b ∷ w) rows size none = absurd (omega arith)

-- ---- every run has died
module _ (t : List ℕ) (table : RowTable t) where
  pub all-empty : (w rows : List ℕ) → 0 < length w → Rows rows → rows_looked t w rows 32 ≡ 0 → (j : ℕ) → j < 32 → get_or rows j 0 ≡ 8192
  all-empty w rows some low none j h =
      let r = get_or rows j 0 in
      by_test (ltb r 8192)
      (λ b. absurd (omega (arith, looked_some (hop_of t) 8192 r w (ltb-true r 8192 b) some, term_greatest (λ q. row_looked t w (get_or rows q 0)) 32 j h)))
      (λ b. omega (arith, ltb-false r 8192 b, low j))

  module _ (v w rows : List ℕ) (low : Rows rows) (empty : (j : ℕ) → j < 32 → get_or (rows_end t v rows 32) j 0 ≡ 8192) where
    abbrev ends : List ℕ
    ends = rows_end t v rows 32

    pub walked_idle : walked_of t v rows ≡ walked_of t (v ++ w) rows
    walked_idle =
        walked_is
        (same_list 32 (λ j. row_end t v (get_or rows j 0)) (λ j. row_end t w (get_or ends j 0))
        (λ j h. sym (rows_at t v rows 32 j h) ∙ empty j h ∙ rw (empty j h) (sym (end_empty (hop_of t) 8192 (hop_low t table) (hop_stays t table) w))))
        (same_list 32 (λ j. row_count t v (get_or rows j 0)) (λ j. get_or (rows_count t v rows 32) j 0 + get_or (rows_count t w ends 32) j 0)
        (λ j h.
        let first = cell_of_lem 32 (λ q. row_count t v (get_or rows q 0)) j 0 h in
        let second = cell_of_lem 32 (λ q. row_count t w (get_or ends q 0)) j 0 h in
        let none = ap (row_count t w) (empty j h) in
        omega (arith, count_empty (hop_of t) 8192 (hop_low t table) (hop_stays t table) w)))
        (let none = greatest_most (λ j. row_looked t w (get_or ends j 0)) 0 32 (λ j h. rw (empty j h) (omega (arith, looked_empty (hop_of t) 8192 8192 w (omega arith)))) in omega arith)
        ∙ then_walked t table v w rows low

-- ---- bounds
module _ (t w rows : List ℕ) (most : ℕ) (few : length w ≤ most) where
  pub counts_small : (j : ℕ) → get_or (rows_count t w rows 32) j 0 ≤ most
  counts_small j =
      by_test (ltb j 32)
      (λ b. omega (arith, cell_of_lem 32 (λ q. row_count t w (get_or rows q 0)) j 0 (ltb-true j 32 b), count_most (hop_of t) 8192 (get_or rows j 0) w))
      (λ b.
      let past = ltb-false j 32 b in
      let long = length_list_from 0 32 (λ q. row_count t w (get_or rows q 0)) in
      omega (arith, get_or-eq_default (rows_count t w rows 32) 0 {n = j} (omega arith)))

  pub looked_small : rows_looked t w rows 32 ≤ most
  looked_small = greatest_most (λ j. row_looked t w (get_or rows j 0)) most 32 (λ j h. omega (arith, looked_most (hop_of t) 8192 (get_or rows j 0) w))

-- ---- a text of which x has gone over i bytes, and b goes over those from i to e
module _ (t : List ℕ) (table : RowTable t) (text rows : List ℕ) (low : Rows rows) (i e : ℕ) (h : i < e) (within : e ≤ length text)
    (x b : Walked) (before : x ≡ walked_of t (take i text) rows) (block : b ≡ walked_of t (take (e - i) (drop i text)) x.rows) where
  abbrev part : List ℕ
  part = take (e - i) (drop i text)

  joined : take e text ≡ take i text ++ part
  joined = let d : e ≡ i + (e - i) = omega arith in ap (λ (k : ℕ). take k text) d ∙ take-add i (e - i) text

  then_is : then_of x b ≡ then_of (walked_of t (take i text) rows) (walked_of t part (rows_end t (take i text) rows 32))
  then_is = rw (block, before)

  pub block_on : then_of x b ≡ walked_of t (take e text) rows
  block_on = then_is ∙ rw joined (then_walked t table (take i text) part rows low)

  pub block_last : b.looked ≡ 0 → then_of x b ≡ walked_of t (take (length text) text) rows
  block_last none =
      let from = rows_end t (take i text) rows 32 in
      let quiet : rows_looked t part from 32 ≡ 0 = sym (rw (block, before)) ∙ none in
      let some : 0 < length part = omega (arith, length-take (e - i) (drop i text), length-drop i text) in
      let dead = all-empty t table part from some (rows_low t table (take i text) rows 32 low) quiet in
      let all : take i text ++ drop i text ≡ take (length text) text = take-append-drop i text ∙ sym (take-length text) in
      let idle : walked_of t (take i text) rows ≡ walked_of t (take (length text) text) rows = rw all at (walked_idle t table (take i text) (drop i text) rows low dead) in
      let same : walked_of t (take i text) rows ≡ walked_of t (take i text ++ part) rows = walked_idle t table (take i text) part rows low dead in
      then_is ∙ then_walked t table (take i text) part rows low ∙ sym same ∙ idle
