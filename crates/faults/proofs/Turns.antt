-- One turn of the loops over the rows of a band: a row, and an event of a column. Assumes nothing.
--
--   row_fits, row_next        a row's cells, and where the next one begins
--   row_is, event_is          the row that begins at a cell, and its event of a column
--   wrong, right, all_right   the rows of a band: this one is not accepted; it is; all are
--   set_next                  the set after a column, with one row more
--   stuck_here, on_here, all_on   no live state is left; one is; one is to the end
use mathlib.Core.Path.{◌≡◌, sym, ap, ◌∙◌}
use mathlib.Core.Bool.{Bool, true, false, not, cond}
use mathlib.Core.List.{List, [], ◌∷◌}
use mathlib.Core.Option.{none, some}
use Prim.Native.Nat.{ℕ, zero, suc, ◌+◌, ◌-◌, ◌*◌, ◌≤◌, ◌<◌}
use native.Mathlib.Nat.{suc-mul, mul-le-mul, le_refl, le_of_suc-le-suc}
use native.Mathlib.Omega.{arith}
use lib.ListN.{length, get_or, take, drop, length-drop}
use lib.Seq.{take-suc, take-length, drop-drop, get_or-drop}
use borrow.Author.Tests.{not-true, not-false}
use Rattle.masks.specs.Masks.{shares}
use Rattle.automaton.specs.declared.Rule.{Rule}
use Rattle.automaton.specs.Successor.{successor, after}
use Rattle.automaton.proofs.Claims as automaton
use Rattle.trays.specs.Rows.{rows_of, column_of}
use Rattle.trays.proofs.Claims as trays
use Rattle.trayverdict.proofs.Walks.{column_append}
use Rattle.faults.specs.First.{first_found}
use Rattle.faults.specs.Faulting.{row_at, column_at, stuck, reaches, way_by, row_wrong, band_wrong, row_stuck, band_stuck}
use Rattle.faults.proofs.First.{first_more, first_here}

-- ---- where a row begins
row-at : (w n : ℕ) (b : List ℕ) (i : ℕ) → i < n → get_or (rows_of w n b) i [] ≡ take w (drop (i * w) b)
unfolding rows_of
row-at w zero b i l = absurd (omega arith)
row-at w (suc n) b zero l = let e : 0 * w ≡ 0 = omega arith in rw e
row-at w (suc n) b (suc i) l =
    let s : suc i * w ≡ i * w + w = suc-mul i w in
    let e : w + i * w ≡ suc i * w = omega arith in
    row-at w n (drop w b) i (le_of_suc-le-suc l) ∙ ap (take w) (drop-drop (i * w) w b ∙ ap (λ (x : ℕ). drop x b) e)

module _ (w n from : ℕ) (cells : List ℕ) (fits : from + n * w ≤ length cells) where
  abbrev pub rows_there : List (List ℕ)
  rows_there = rows_of w n (drop from cells)

  room : n * w ≤ length (drop from cells)
  room = rw (length-drop from cells) (omega arith)

  count-is : length rows_there ≡ n
  count-is = ((trays.claims).rows_law w n (drop from cells) room).rows

  module _ (i at : ℕ) (here : at ≡ from + i * w) where
    pub row_next : at + w ≡ from + (i + 1) * w
    row_next =
        let s : suc i * w ≡ i * w + w = suc-mul i w in
        let e : (i + 1) * w ≡ suc i * w = ap (λ (x : ℕ). x * w) (omega arith) in
        omega (arith, here, s, e)

    pub row_fits : i < n → at + w ≤ length cells
    row_fits l =
        let s : suc i * w ≡ i * w + w = suc-mul i w in
        omega (arith, here, fits, s, mul-le-mul l (le_refl w))

    row_is : i < n → get_or rows_there i [] ≡ take (at + w - at) (drop at cells)
    row_is l =
        let e : at + w - at ≡ w = omega arith in
        row-at w n (drop from cells) i l ∙ ap (take w) (drop-drop (i * w) from cells ∙ ap (λ (x : ℕ). drop x cells) (sym here))
        ∙ ap (λ (x : ℕ). take x (drop at cells)) (sym e)

    event_is : i < n → (c : ℕ) → c < w → get_or (get_or rows_there i []) c 0 ≡ get_or cells (at + c) 0
    event_is l c h =
        let e : from + (i * w + c) ≡ at + c = omega (arith, here) in
        ((trays.claims).rows_law w n (drop from cells) room).event i c l h ∙ get_or-drop from cells (i * w + c) 0 ∙ ap (λ (x : ℕ). get_or cells x 0) e

  -- ---- the rows of a band
  module _ (r : Rule) (b : ℕ) where
    module _ (i at : ℕ) (here : at ≡ from + i * w) (l : i < n) (before : first_found (row_wrong r b rows_there) i ≡ none)
        (m : ℕ) (walked : m ≡ after r.targets r.initials (take (at + w - at) (drop at cells))) (x : Bool) (meets : x ≡ shares m r.finals) where
      test_is : (t : Bool) → x ≡ t → row_wrong r b rows_there i ≡ cond t none (some (row_at b i))
      test_is t e = rw (row_is i at here l, ← walked, ← meets, e)

      pub wrong : not x ≡ true → some (row_at b i) ≡ band_wrong r b rows_there
      wrong e =
          sym (first_here (row_wrong r b rows_there) (length rows_there) i (row_at b i) (omega (arith, l, count-is)) before (test_is false (not-true x e)))

      pub right : not x ≡ false → first_found (row_wrong r b rows_there) (i + 1) ≡ none
      right e = first_more (row_wrong r b rows_there) i before (test_is true (not-false x e))

    pub all_right : (i : ℕ) → i ≤ n → n ≤ i → first_found (row_wrong r b rows_there) i ≡ none → none ≡ band_wrong r b rows_there
    all_right i h l before =
        let e : i ≡ length rows_there = omega (arith, h, l, count-is) in
        sym (ap (first_found (row_wrong r b rows_there)) (sym e) ∙ before)

  -- ---- the rows of a band, by a column
  module _ (ts : List ℕ) (live c m b : ℕ) (h : c < w) where
    module _ (i at : ℕ) (here : at ≡ from + i * w) (l : i < n) (set : ℕ) (so_far : set ≡ after ts m (column_of c (take i rows_there)))
        (next : ℕ) (moved : next ≡ successor ts set (get_or cells (at + c) 0)) where
      pub set_next : next ≡ after ts m (column_of c (take (i + 1) rows_there))
      unfolding column_of
      set_next =
          let e : i + 1 ≡ suc i = omega arith in
          moved
          ∙ rw (so_far, ← event_is i at here l c h)
          (sym ((automaton.claims).after-append ts m (column_of c (take i rows_there)) (get_or (get_or rows_there i []) c 0 ∷ []))
          ∙ ap (after ts m) (sym (column_append c (take i rows_there) (get_or rows_there i [] ∷ [])))
          ∙ ap (λ (x : List (List ℕ)). after ts m (column_of c x)) (sym (take-suc rows_there i [] (omega (arith, l, count-is))))
          ∙ ap (λ (x : ℕ). after ts m (column_of c (take x rows_there))) (sym e))

      module _ (before : first_found (row_stuck ts live c m b rows_there) i ≡ none) (x : Bool) (meets : x ≡ shares next live) where
        test : (t : Bool) → x ≡ t → row_stuck ts live c m b rows_there i ≡ cond t none (some (column_at c b i))
        test t is =
            let e : i + 1 ≡ suc i = omega arith in
            let set_is : next ≡ after ts m (column_of c (take (suc i) rows_there)) = set_next ∙ ap (λ (y : ℕ). after ts m (column_of c (take y rows_there))) e in
            rw (← set_is, ← meets, is)

        pub stuck_here : not x ≡ true → (last : ℕ) → stuck (column_at c b i) ≡ way_by (band_stuck ts live c m b rows_there) last
        stuck_here e last =
            ap (λ o. way_by o last)
            (sym (first_here (row_stuck ts live c m b rows_there) (length rows_there) i (column_at c b i) (omega (arith, l, count-is)) before (test false (not-true x e))))

        pub on_here : not x ≡ false → first_found (row_stuck ts live c m b rows_there) (i + 1) ≡ none
        on_here e = first_more (row_stuck ts live c m b rows_there) i before (test true (not-false x e))

    pub all_on : (i set : ℕ) → i ≤ n → n ≤ i → first_found (row_stuck ts live c m b rows_there) i ≡ none → set ≡ after ts m (column_of c (take i rows_there))
        → reaches set ≡ way_by (band_stuck ts live c m b rows_there) (after ts m (column_of c rows_there))
    all_on i set k l before so_far =
        let e : i ≡ length rows_there = omega (arith, k, l, count-is) in
        ap reaches (so_far ∙ ap (λ (x : ℕ). after ts m (column_of c (take x rows_there))) e ∙ ap (λ (x : List (List ℕ)). after ts m (column_of c x)) (take-length rows_there))
        ∙ ap (λ o. way_by o (after ts m (column_of c rows_there))) (sym (ap (first_found (row_stuck ts live c m b rows_there)) (sym e) ∙ before))
