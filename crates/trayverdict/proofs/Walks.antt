-- One step of each loop: a byte of a text, a row of a band, an event of a column, a band. Assumes
-- nothing.
--
--   text-step            the set after a text, by its first byte that is left
--   room_step            behind a row there is room for those that are left
--   row_fails, row_passes    the rows of a band, by the first that is left
--   event_step           the set after a column, by the first row that is left
--   column_done, rows_done   no row is left
--   pass_append, column_append   rows behind others, and a column through them
--   pass_more, column_on, pass_fails   one band more, and a band that fails
--   columns_more, columns_fail   one column more, and a column that fails
--   band_fits            a band's rows are within the cells
--   some_row_fails, rows_decided   both rules, over the whole board
use mathlib.Core.Path.{◌≡◌, refl, sym, ap, ap₂, ◌∙◌}
use mathlib.Core.Logic.{⊎_elim}
use mathlib.Core.Bool.{Bool, true, false, not, ◌&&◌, and_assoc, and-false}
use mathlib.Core.List.{List, [], ◌∷◌, ◌++◌}
use Prim.Native.Nat.{ℕ, zero, suc, ◌+◌, ◌-◌, ◌*◌, ◌≤◌, ◌<◌}
use native.Mathlib.Nat.{suc-mul, eq-or-lt_of_le, le_of_suc-le-suc}
use native.Mathlib.Numerals.{add-one}
use native.Mathlib.Omega.{arith}
use lib.ListN.{length, get_or, take, drop, drop_of_length-le}
use lib.Seq.{drop-cons, drop-drop, get_or-take, get_or-drop}
use borrow.Author.Tests.{not-true, not-false}
use Rattle.masks.specs.Masks.{shares}
use Rattle.automaton.specs.declared.Rule.{Rule}
use Rattle.automaton.specs.Successor.{successor, after}
use Rattle.automaton.proofs.Claims as automaton
use Rattle.trays.specs.declared.TrayBoard.{TrayBoard}
use Rattle.trays.specs.Rows.{rows_of, rows_up_to, column_of, accepted, rows_pass, columns_pass, passes}
use Rattle.trays.specs.Boards.{width_of, bands_of, count_in, band_in, rows_held}
use Rattle.trays.proofs.Bands.{rows_fit}

pub text-step : (ts : List ℕ) (m : ℕ) (w : List ℕ) (i : ℕ) → i < length w
    → after ts m (drop i w) ≡ after ts (successor ts m (get_or w i 0)) (drop (i + 1) w)
text-step ts m w i h = rw (add-one, drop-cons w i 0 h)

pub text_done : (ts : List ℕ) (m : ℕ) (w : List ℕ) (i : ℕ) → length w ≤ i → after ts m (drop i w) ≡ m
text_done ts m w i h = rw (drop_of_length-le w h)

-- ---- a row that is left
pub room_step : (at left w long : ℕ) → (left ≡ 0 → ⊥) → at + left * w ≤ long → (at + w ≤ long) × (at + w + (left - 1) * w ≤ long)
room_step at zero w long ne h = absurd (ne refl)
room_step at (suc n) w long ne h =
    let e : suc n * w ≡ n * w + w = suc-mul n w in
    let d : (suc n - 1) * w ≡ n * w = ap (λ (x : ℕ). x * w) (omega arith) in
    (omega arith, omega arith)

rows_step : (w left : ℕ) (b : List ℕ) → (left ≡ 0 → ⊥) → rows_of w left b ≡ take w b ∷ rows_of w (left - 1) (drop w b)
unfolding rows_of
rows_step w zero b ne = absurd (ne refl)
rows_step w (suc n) b ne =
    let e : suc n - 1 ≡ n = omega arith in
    rw e

-- a part that ends w bytes behind its start has w bytes
part_is : (at w : ℕ) (l : List ℕ) → take (at + w - at) (drop at l) ≡ take w (drop at l)
part_is at w l = let e : at + w - at ≡ w = omega arith in ap (λ (n : ℕ). take n (drop at l)) e

row_step : (r : Rule) (w left at : ℕ) (cells : List ℕ) → (left ≡ 0 → ⊥)
    → rows_pass r (rows_of w left (drop at cells))
    ≡ (accepted r (take (at + w - at) (drop at cells)) && rows_pass r (rows_of w (left - 1) (drop (at + w) cells)))
unfolding rows_pass
row_step r w left at cells ne =
    rw (rows_step w left (drop at cells) ne, part_is at w cells, drop-drop w at cells)

-- the set after the row that comes next, and whether it has a final state
module _ (r : Rule) (w left at : ℕ) (cells : List ℕ) (ne : left ≡ 0 → ⊥)
    (m : ℕ) (walked : m ≡ after r.targets r.initials (take (at + w - at) (drop at cells))) (x : Bool) (meets : x ≡ shares m r.finals) where
  pub row_fails : x ≡ false → rows_pass r (rows_of w left (drop at cells)) ≡ false
  row_fails e = row_step r w left at cells ne ∙ rw (← walked, ← meets, e)

  pub row_passes : x ≡ true → rows_pass r (rows_of w left (drop at cells)) ≡ rows_pass r (rows_of w (left - 1) (drop (at + w) cells))
  row_passes e = row_step r w left at cells ne ∙ rw (← walked, ← meets, e)

pub event_step : (ts : List ℕ) (m w left at c : ℕ) (cells : List ℕ) → (left ≡ 0 → ⊥) → c < w
    → after ts m (column_of c (rows_of w left (drop at cells)))
    ≡ after ts (successor ts m (get_or cells (at + c) 0)) (column_of c (rows_of w (left - 1) (drop (at + w) cells)))
unfolding column_of
event_step ts m w left at c cells ne h =
    rw (rows_step w left (drop at cells) ne, get_or-take w (drop at cells) c 0 h, get_or-drop at cells c 0, drop-drop w at cells)

pub column_done : (ts : List ℕ) (m w left c : ℕ) (b : List ℕ) → left ≡ 0 → after ts m (column_of c (rows_of w left b)) ≡ m
unfolding rows_of column_of
column_done ts m w left c b z = rw z

pub rows_done : (r : Rule) (w left : ℕ) (b : List ℕ) → left ≡ 0 → rows_pass r (rows_of w left b) ≡ true
unfolding rows_of rows_pass
rows_done r w left b z = rw z

-- ---- bands one after the other
pub pass_append : (r : Rule) (a b : List (List ℕ)) → rows_pass r (a ++ b) ≡ (rows_pass r a && rows_pass r b)
unfolding rows_pass
pass_append r [] b = refl
pass_append r (row ∷ a) b = rw (pass_append r a b) (sym (and_assoc (accepted r row) (rows_pass r a) (rows_pass r b)))

pub column_append : (c : ℕ) (a b : List (List ℕ)) → column_of c (a ++ b) ≡ column_of c a ++ column_of c b
unfolding column_of
column_append c [] b = refl
column_append c (row ∷ a) b = ap (λ (l : List ℕ). get_or row c 0 ∷ l) (column_append c a b)

-- one band more
pub pass_more : (r : Rule) (at : ℕ → List (List ℕ)) (p : ℕ) → rows_pass r (rows_up_to at (p + 1)) ≡ (rows_pass r (rows_up_to at p) && rows_pass r (at p))
unfolding rows_up_to
pass_more r at p = rw add-one (pass_append r (rows_up_to at p) (at p))

column-more : (ts : List ℕ) (m c : ℕ) (at : ℕ → List (List ℕ)) (p : ℕ)
    → after ts m (column_of c (rows_up_to at (p + 1))) ≡ after ts (after ts m (column_of c (rows_up_to at p))) (column_of c (at p))
unfolding rows_up_to
column-more ts m c at p =
    rw (add-one, column_append c (rows_up_to at p) (at p)) ((automaton.claims).after-append ts m (column_of c (rows_up_to at p)) (column_of c (at p)))

-- the set after a column, with the set after its part in one band more
pub column_on : (ts : List ℕ) (m c w : ℕ) (rows cells : List ℕ) (p x : ℕ) → x ≡ after ts m (column_of c (rows_up_to (band_in w rows cells) p))
    → (n : ℕ) → n ≡ count_in rows p → (y : ℕ) → y ≡ after ts x (column_of c (rows_of w n (drop (p * 1024) cells)))
    → y ≡ after ts m (column_of c (rows_up_to (band_in w rows cells) (p + 1)))
column_on ts m c w rows cells p x before n count y here =
    here ∙ rw (count, before) (sym (column-more ts m c (band_in w rows cells) p))

-- a band that fails
pub pass_fails : (r : Rule) (at : ℕ → List (List ℕ)) (n p : ℕ) → p < n → rows_pass r (at p) ≡ false → rows_pass r (rows_up_to at n) ≡ false
unfolding rows_up_to
pass_fails r at zero p h e = absurd (omega arith)
pass_fails r at (suc n) p h e =
    pass_append r (rows_up_to at n) (at n)
    ∙ ⊎_elim
    (λ z. ap (λ (x : ℕ). rows_pass r (rows_up_to at n) && rows_pass r (at x)) (sym z) ∙ rw e (and-false (rows_pass r (rows_up_to at n))))
    (λ l. rw (pass_fails r at n p l e))
    (eq-or-lt_of_le (le_of_suc-le-suc h))

-- a column that fails
pub columns_fail : (r : Rule) (rows : List (List ℕ)) (n c : ℕ) → c < n → accepted r (column_of c rows) ≡ false → columns_pass r rows n ≡ false
unfolding columns_pass
columns_fail r rows zero c h e = absurd (omega arith)
columns_fail r rows (suc n) c h e =
    ⊎_elim
    (λ z. ap (λ (x : ℕ). columns_pass r rows n && accepted r (column_of x rows)) (sym z) ∙ rw e (and-false (columns_pass r rows n)))
    (λ l. rw (columns_fail r rows n c l e))
    (eq-or-lt_of_le (le_of_suc-le-suc h))

pub columns_more : (r : Rule) (rows : List (List ℕ)) (c : ℕ) → columns_pass r rows c ≡ true → accepted r (column_of c rows) ≡ true
    → columns_pass r rows (c + 1) ≡ true
unfolding columns_pass
columns_more r rows c before here = rw (add-one, before, here)

pub band_fits : (p n w long : ℕ) → p < 8 → n ≤ 64 → w ≤ 16 → long ≡ 8192 → p * 1024 + n * w ≤ long
band_fits p n w long h few narrow is = omega (arith, rows_fit n w few narrow)

-- ---- the whole board
module _ (row column : Rule) (b : TrayBoard) (w n : ℕ) (width : w ≡ width_of b) (bands : n ≡ bands_of b)
    (x : Bool) (pass : x ≡ rows_pass row (rows_up_to (band_in w b.rows b.cells) n)) where
  held_is : x ≡ rows_pass row (rows_held b)
  held_is = pass ∙ ap₂ (λ (v m : ℕ). rows_pass row (rows_up_to (band_in v b.rows b.cells) m)) width bands

  pub some_row_fails : not x ≡ true → false ≡ passes row column (width_of b) (rows_held b)
  some_row_fails e = rw (← held_is, not-true x e)

  pub rows_decided : not x ≡ false → (y : Bool) → y ≡ columns_pass column (rows_up_to (band_in w b.rows b.cells) n) w
      → y ≡ passes row column (width_of b) (rows_held b)
  rows_decided e y is =
      rw (← held_is, not-false x e)
      (is ∙ ap₂ (λ (v m : ℕ). columns_pass column (rows_up_to (band_in v b.rows b.cells) m) v) width bands)
