-- The laws of rows and columns: which event stands where, rows that have the same bytes, and that
-- the tests decide acceptance. Assumes nothing.
--
--   rows_none               no row
--   rows_law, column_law    the claims: where each event stands
--   bands_law               and where each row of a band stands among those of all bands
--   rows_same               rows depend on their bytes alone
--   up_to_same              the rows of bands, from those of each
--   rows_pass_lem, columns_pass_lem, passes_law  the tests decide it
use mathlib.Core.Path.{◌≡◌, refl, sym, ap, ap₂, ◌∙◌, subst}
use mathlib.Core.Logic.{◌↔◌, ⊎_elim}
use mathlib.Core.Bool.{true, and-eq-true_iff}
use mathlib.Core.List.{List, [], ◌∷◌, ◌++◌}
use Prim.Native.Nat.{ℕ, zero, suc, ◌+◌, ◌*◌, ◌≤◌, ◌<◌}
use native.Mathlib.Nat.{suc-mul, eq-or-lt_of_le, le_of_suc-le-suc}
use native.Mathlib.Omega.{arith}
use lib.ListN.{length, get_or, take, drop, length-drop, length-append, get_or-append}
use lib.Seq.{length-take-le, get_or-take, get_or-drop, get_or-append-add, ext_get_or}
use Rattle.base.specs.Totals.{total}
use Rattle.automaton.specs.declared.Rule.{Rule}
use Rattle.automaton.specs.Automaton.{Accepts}
use Rattle.automaton.specs.Rules.{automaton_of, WellFormed}
use Rattle.automaton.proofs.Claims as automaton
use Rattle.trays.specs.Rows.{rows_of, rows_up_to, column_of, accepted, rows_pass, columns_pass, passes, AllAccepted}
use Rattle.trays.specs.Claims.{RowsLaw, ColumnLaw, rows_below, BandsLaw}

pub rows_none : (w : ℕ) (b : List ℕ) → rows_of w 0 b ≡ []
unfolding rows_of
rows_none w b = refl

-- behind the first row there is room for the others
rest-fits : (w n : ℕ) (b : List ℕ) → suc n * w ≤ length b → (w ≤ length b) × (n * w ≤ length (drop w b))
rest-fits w n b h =
    let e : suc n * w ≡ n * w + w = suc-mul n w in
    (omega arith, rw (length-drop w b) (omega arith))

-- ---- which event stands where
row_count : (w n : ℕ) (b : List ℕ) → length (rows_of w n b) ≡ n
unfolding rows_of
row_count w zero b = refl
row_count w (suc n) b = ap suc (row_count w n (drop w b))

row_width : (w n : ℕ) (b : List ℕ) → n * w ≤ length b → (i : ℕ) → i < n → length (get_or (rows_of w n b) i []) ≡ w
unfolding rows_of
row_width w zero b h i l = absurd (omega arith)
row_width w (suc n) b h zero l = length-take-le w b (rest-fits w n b h).0
row_width w (suc n) b h (suc i) l = row_width w n (drop w b) (rest-fits w n b h).1 i (le_of_suc-le-suc l)

row_event : (w n : ℕ) (b : List ℕ) (i c : ℕ) → i < n → c < w → get_or (get_or (rows_of w n b) i []) c 0 ≡ get_or b (i * w + c) 0
unfolding rows_of
row_event w zero b i c l m = absurd (omega arith)
row_event w (suc n) b zero c l m =
    let e : c ≡ 0 * w + c = omega arith in
    get_or-take w b c 0 m ∙ ap (λ (x : ℕ). get_or b x 0) e
row_event w (suc n) b (suc i) c l m =
    let s : suc i * w ≡ i * w + w = suc-mul i w in
    let e : w + (i * w + c) ≡ suc i * w + c = omega arith in
    row_event w n (drop w b) i c (le_of_suc-le-suc l) m ∙ get_or-drop w b (i * w + c) 0 ∙ ap (λ (x : ℕ). get_or b x 0) e

pub rows_law : (w n : ℕ) (b : List ℕ) → n * w ≤ length b → RowsLaw w n b
rows_law w n b h = record { rows = row_count w n b; events = row_width w n b h; event = row_event w n b }

column_count : (c : ℕ) (rows : List (List ℕ)) → length (column_of c rows) ≡ length rows
unfolding column_of
column_count c [] = refl
column_count c (row ∷ rows) = ap suc (column_count c rows)

column_event : (c : ℕ) (rows : List (List ℕ)) (i : ℕ) → i < length rows → get_or (column_of c rows) i 0 ≡ get_or (get_or rows i []) c 0
unfolding column_of
column_event c [] i l = absurd (omega arith)
column_event c (row ∷ rows) zero l = refl
column_event c (row ∷ rows) (suc i) l = column_event c rows i (le_of_suc-le-suc l)

pub column_law : (c : ℕ) (rows : List (List ℕ)) → ColumnLaw c rows
column_law c rows = record { events = column_count c rows; event = column_event c rows }

-- ---- which row stands where
rows-below : (at : ℕ → List (List ℕ)) (n : ℕ) → length (rows_up_to at n) ≡ rows_below at n
unfolding rows_up_to total
rows-below at zero = refl
rows-below at (suc n) = length-append (rows_up_to at n) (at n) ∙ ap (λ (x : ℕ). x + length (at n)) (rows-below at n)

-- a band's rows end before those of the bands above it begin
before_next : (at : ℕ → List (List ℕ)) (n p i : ℕ) → p < n → i < length (at p) → rows_below at p + i < rows_below at n
unfolding total
before_next at zero p i l m = absurd (omega arith)
before_next at (suc n) p i l m =
    ⊎_elim
    (λ e. omega (arith, ap (rows_below at) e, ap (λ (q : ℕ). length (at q)) e))
    (λ b. omega (arith, before_next at n p i b m))
    (eq-or-lt_of_le (le_of_suc-le-suc l))

-- a row of the last band, and one of a band below it
module _ (at : ℕ → List (List ℕ)) (n : ℕ) where
  in_last : (i : ℕ) → get_or (rows_up_to at n ++ at n) (rows_below at n + i) [] ≡ get_or (at n) i []
  in_last i =
      ap (λ (x : ℕ). get_or (rows_up_to at n ++ at n) (x + i) []) (sym (rows-below at n)) ∙ get_or-append-add (rows_up_to at n) (at n) i []

  in_lower : (p i : ℕ) → p < n → i < length (at p)
      → get_or (rows_up_to at n ++ at n) (rows_below at p + i) [] ≡ get_or (rows_up_to at n) (rows_below at p + i) []
  in_lower p i l m =
      get_or-append (rows_up_to at n) (at n) [] (rows_below at p + i) (rw (rows-below at n) (before_next at n p i l m))

row_of_band : (at : ℕ → List (List ℕ)) (n p i : ℕ) → p < n → i < length (at p)
    → get_or (rows_up_to at n) (rows_below at p + i) [] ≡ get_or (at p) i []
unfolding rows_up_to
row_of_band at zero p i l m = absurd (omega arith)
row_of_band at (suc n) p i l m =
    ⊎_elim
    (λ e. rw e (in_last at n i))
    (λ b. in_lower at n p i b m ∙ row_of_band at n p i b m)
    (eq-or-lt_of_le (le_of_suc-le-suc l))

pub bands_law : (at : ℕ → List (List ℕ)) (n : ℕ) → BandsLaw at n
bands_law at n = record { rows = rows-below at n; row = row_of_band at n }

-- ---- rows with the same bytes
pub rows_same : (w n : ℕ) (a b : List ℕ) → n * w ≤ length a → n * w ≤ length b
    → ((i : ℕ) → i < n * w → get_or a i 0 ≡ get_or b i 0) → rows_of w n a ≡ rows_of w n b
unfolding rows_of
rows_same w zero a b ha hb same = refl
rows_same w (suc n) a b ha hb same =
    let fa = rest-fits w n a ha in
    let fb = rest-fits w n b hb in
    let e : suc n * w ≡ n * w + w = suc-mul n w in
    let long-a : length (take w a) ≡ w = length-take-le w a fa.0 in
    ap₂ (λ (x : List ℕ) (y : List (List ℕ)). x ∷ y)
    (ext_get_or 0 (take w a) (take w b) (long-a ∙ sym (length-take-le w b fb.0))
    (λ i l.
    let m : i < w = rw long-a at l in
    get_or-take w a i 0 m ∙ same i (omega arith) ∙ sym (get_or-take w b i 0 m)))
    (rows_same w n (drop w a) (drop w b) fa.1 fb.1
    (λ i l. get_or-drop w a i 0 ∙ same (w + i) (omega arith) ∙ sym (get_or-drop w b i 0)))

pub up_to_same : (f g : ℕ → List (List ℕ)) (n : ℕ) → ((p : ℕ) → p < n → f p ≡ g p) → rows_up_to f n ≡ rows_up_to g n
unfolding rows_up_to
up_to_same f g zero same = refl
up_to_same f g (suc n) same =
    ap₂ (λ (x y : List (List ℕ)). x ++ y) (up_to_same f g n (λ p l. same p (omega arith))) (same n (omega arith))

-- ---- the tests decide acceptance
module _ (r : Rule) (good : WellFormed r) where
  pub accepted_law : (w : List ℕ) → (accepted r w ≡ true) ↔ Accepts (automaton_of r) w
  accepted_law w = let law = (automaton.claims).accepts_law r good w in (law.1, law.0)

  pub rows_pass_lem : (rows : List (List ℕ)) → (rows_pass r rows ≡ true) ↔ ((i : ℕ) → i < length rows → Accepts (automaton_of r) (get_or rows i []))
  unfolding rows_pass
  rows_pass_lem rows = (to rows, from rows)
    where
      to : (xs : List (List ℕ)) → rows_pass r xs ≡ true → (i : ℕ) → i < length xs → Accepts (automaton_of r) (get_or xs i [])
      to [] e i l = absurd (omega arith)
      to (x ∷ xs) e zero l = (accepted_law x).0 ((and-eq-true_iff (accepted r x) (rows_pass r xs)).0 e).0
      to (x ∷ xs) e (suc i) l = to xs ((and-eq-true_iff (accepted r x) (rows_pass r xs)).0 e).1 i (le_of_suc-le-suc l)

      from : (xs : List (List ℕ)) → ((i : ℕ) → i < length xs → Accepts (automaton_of r) (get_or xs i [])) → rows_pass r xs ≡ true
      from [] h = refl
      from (x ∷ xs) h =
          (and-eq-true_iff (accepted r x) (rows_pass r xs)).1 ((accepted_law x).1 (h 0 (omega arith)), from xs (λ i l. h (suc i) (omega arith)))

  pub columns_pass_lem : (rows : List (List ℕ)) (n : ℕ)
      → (columns_pass r rows n ≡ true) ↔ ((c : ℕ) → c < n → Accepts (automaton_of r) (column_of c rows))
  unfolding columns_pass
  columns_pass_lem rows n = (to n, from n)
    where
      to : (m : ℕ) → columns_pass r rows m ≡ true → (c : ℕ) → c < m → Accepts (automaton_of r) (column_of c rows)
      to zero e c l = absurd (omega arith)
      to (suc m) e c l =
          let parts = (and-eq-true_iff (columns_pass r rows m) (accepted r (column_of m rows))).0 e in
          ⊎_elim
          (λ z. subst (λ (x : ℕ). Accepts (automaton_of r) (column_of x rows)) (sym z) ((accepted_law (column_of m rows)).0 parts.1))
          (to m parts.0 c)
          (eq-or-lt_of_le (le_of_suc-le-suc l))

      from : (m : ℕ) → ((c : ℕ) → c < m → Accepts (automaton_of r) (column_of c rows)) → columns_pass r rows m ≡ true
      from zero h = refl
      from (suc m) h =
          (and-eq-true_iff (columns_pass r rows m) (accepted r (column_of m rows))).1
          (from m (λ c l. h c (omega arith)), (accepted_law (column_of m rows)).1 (h m (omega arith)))

pub passes_law : (row column : Rule) → WellFormed row → WellFormed column
    → (w : ℕ) (rows : List (List ℕ)) → (passes row column w rows ≡ true) ↔ AllAccepted row column w rows
passes_law row column good-row good-column w rows =
    let both = and-eq-true_iff (rows_pass row rows) (columns_pass column rows w) in (
      (λ e. record {
        every_row = (rows_pass_lem row good-row rows).0 (both.0 e).0;
        every_column = (columns_pass_lem column good-column rows w).0 (both.0 e).1;
      }),
      λ all. both.1 ((rows_pass_lem row good-row rows).1 all.every_row, (columns_pass_lem column good-column rows w).1 all.every_column),
    )
