-- The table is filled in the order of its cells: a kept cell is the next of the packed ones, since as
-- many were taken before as its rank says; one that is left out stands in the row of the failure set,
-- which is filled already. Assumes nothing.
use mathlib.Core.Path.{◌≡◌, sym, ap, ◌∙◌}
use mathlib.Core.Logic.{◌⊎◌, ⊎_elim}
use mathlib.Core.Bool.{Bool, true, false, cond, and-false}
use mathlib.Core.List.{List}
use mathlib.Core.Option.{none}
use Prim.Native.Nat.{ℕ, ◌+◌, ◌*◌, ◌/◌, ◌%◌, ◌≤◌, ◌<◌}
use native.Mathlib.Numerals.{add-one}
use native.Mathlib.Omega.{arith}
use lib.Dec.{ltb}
use lib.ListN.{length, get_or, set, length-set}
use borrow.Author.Tests.{lt-ltb, le-ltb, ltb-true, ltb-false}
use Rattle.base.specs.Lists.{list_from}
use Rattle.base.proofs.Lists.{is_list_from}
use Rattle.base.proofs.Tests.{by_test}
use Rattle.limits.specs.Limits.{most_symbols, most_sets, empty_set, table_cells}
use Rattle.masks.specs.Masks.{has}
use Rattle.masks.proofs.Laws.{member_of, members_below}
use Rattle.forms.specs.declared.Form.{Form}
use Rattle.forms.specs.Form.{how_many, kept_at}
use Rattle.forms.specs.Back.{rank, cell_of, back_number, back_cell}
use Rattle.forms.proofs.Picking.{many_step, many_skip}
use Rattle.forms.proofs.Filling.{Filled, fill_more}
use Rattle.forms.proofs.Accepting.{Accepted, parts}
use Rattle.forms.proofs.Reading.{above, cell-is}
use Rattle.forms.proofs.Trip.{place}

module _ (f : Form) (accepted : back_number f ≡ none) (c : ℕ) (inside : c < f.sets * most_symbols) where
  abbrev t : ℕ
  t = c / most_symbols

  abbrev s : ℕ
  s = c % most_symbols

  a : Accepted f
  a = parts f accepted

  -- the cell c of the table
  used : s < f.symbols → back_cell f c ≡ cell_of f t s
  used h =
      let b : t < f.sets = omega arith in
      rw (lt-ltb t f.sets b, lt-ltb s f.symbols h)

  pub kept_cell_lem : (at : ℕ) → at ≡ how_many (kept_at f.kept) c → has (get_or f.kept t 0) s ≡ true → get_or f.cells at 0 ≡ back_cell f c
  kept_cell_lem at q e =
      let b : t < f.sets = omega arith in
      let h : s < f.symbols = members_below f.symbols (get_or f.kept t 0) s (a.only t b) (member_of (get_or f.kept t 0) s e) in
      let here : c ≡ t * most_symbols + s = omega arith in
      let z : at ≡ rank f t s = q ∙ ap (how_many (kept_at f.kept)) here in
      let look : cell_of f t s ≡ get_or f.cells (rank f t s) 0 = cell-is f a t s b h ∙ rw e in
      ap (λ (x : ℕ). get_or f.cells x 0) z ∙ sym look ∙ sym (used h)

  -- the failure set's row is below
  pub row_below : has (get_or f.kept t 0) s ≡ false → s < f.symbols → get_or f.failure t 0 < t
  row_below e h =
      let b : t < f.sets = omega arith in
      a.down t (above f a t s h e) b

  pub left_cell : (next : List ℕ) (v : ℕ) → Filled table_cells empty_set (back_cell f) c next → has (get_or f.kept t 0) s ≡ false
      → v ≡ cond (ltb s f.symbols) (get_or next (get_or f.failure t 0 * most_symbols + s) 0) empty_set → v ≡ back_cell f c
  left_cell next v filled e q =
      by_test (ltb s f.symbols)
      (λ y.
      let h : s < f.symbols = ltb-true s f.symbols y in
      let b : t < f.sets = omega arith in
      let low : get_or f.failure t 0 < t = row_below e h in
      let few : f.sets ≤ most_sets = a.sets in
      let u : ℕ = get_or f.failure t 0 in
      let p = place u s (omega arith) in
      let there : u * most_symbols + s < c = omega arith in
      let row : get_or next (u * most_symbols + s) 0 ≡ cell_of f u s
      = filled (u * most_symbols + s) (omega arith)
      ∙ rw (lt-ltb (u * most_symbols + s) c there, p.0, p.1, lt-ltb u f.sets (omega arith), y) in
      let look : cell_of f t s ≡ cell_of f u s = cell-is f a t s b h ∙ rw e in
      let first : cond (ltb s f.symbols) (get_or next (u * most_symbols + s) 0) empty_set ≡ get_or next (u * most_symbols + s) 0 = rw y in
      q ∙ first ∙ row ∙ sym look ∙ sym (used h))
      (λ y.
      let other : cond (ltb s f.symbols) (get_or next (get_or f.failure t 0 * most_symbols + s) 0) empty_set ≡ empty_set = rw y in
      let unused : back_cell f c ≡ empty_set = rw (y, and-false (ltb t f.sets)) in
      q ∙ other ∙ sym unused)

-- the last row is filled
pub all_filled : (f : Form) (next : List ℕ) (c : ℕ) → c ≡ f.sets * most_symbols → length next ≡ table_cells
    → Filled table_cells empty_set (back_cell f) c next → next ≡ list_from 0 table_cells (back_cell f)
all_filled f next c e n filled =
    is_list_from next table_cells (back_cell f) n
    (λ j h. filled j h ∙ by_test (ltb j c)
    (λ y. rw y)
    (λ y.
    let out : f.sets ≤ j / 16 = omega (arith, ltb-false j c y) in
    rw (y, le-ltb (j / 16) f.sets out)))

-- one cell more: the kept one that is next, or the failure set's
pub row_more : (f : Form) (accepted : back_number f ≡ none) (c at at' : ℕ) (next next' : List ℕ) (r : Bool) → c < f.sets * most_symbols
    → r ≡ has (get_or f.kept (c / most_symbols) 0) (c % most_symbols)
    → at ≡ how_many (kept_at f.kept) c → at ≤ c → length next ≡ table_cells → Filled table_cells empty_set (back_cell f) c next
    → ((r ≡ true) × (next' ≡ set next c (get_or f.cells at 0)) × (at' ≡ at + 1))
    ⊎ ((r ≡ false) × ((v : ℕ) × (v ≡ cond (ltb (c % most_symbols) f.symbols) (get_or next (get_or f.failure (c / most_symbols) 0 * most_symbols + c % most_symbols) 0) empty_set) × (next' ≡ set next c v)) × (at' ≡ at))
    → (at' ≡ how_many (kept_at f.kept) (c + 1)) × (at' ≤ c + 1) × (length next' ≡ table_cells) × Filled table_cells empty_set (back_cell f) (c + 1) next'
row_more f accepted c at at' next next' r h e q le n filled o =
    let few = (parts f accepted).sets in
    ⊎_elim
    (λ x.
    let b : has (get_or f.kept (c / 16) 0) (c % 16) ≡ true = sym e ∙ x.0 in
    let s = many_step (kept_at f.kept) c b in
    let v : ℕ = get_or f.cells at 0 in (
      rw (add-one c) (omega (arith, x.2)),
      omega (arith, x.2),
      ap length x.1 ∙ length-set next c v ∙ n,
      rw x.1 (fill_more table_cells empty_set (back_cell f) c v next (kept_cell_lem f accepted c h at q b) (omega arith) filled),
    ))
    (λ x.
    let b : has (get_or f.kept (c / 16) 0) (c % 16) ≡ false = sym e ∙ x.0 in
    let s = many_skip (kept_at f.kept) c b in
    let v : ℕ = x.1.0 in (
      rw (add-one c) (omega (arith, x.2)),
      omega (arith, x.2),
      ap length x.1.2 ∙ length-set next c v ∙ n,
      rw x.1.2 (fill_more table_cells empty_set (back_cell f) c v next (left_cell f accepted c h next v filled b x.1.1) (omega arith) filled),
    ))
    o
