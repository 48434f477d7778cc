-- The way back from any form: of an accepted form each cell is the kept one or the failure set's, and
-- is empty or names a set; and what is not read changes no answer. Assumes nothing.
use mathlib.Core.Path.{◌≡◌, refl, sym, ap, ◌∙◌}
use mathlib.Core.Logic.{◌⊎◌, ⊎_elim}
use mathlib.Core.Bool.{true, false, cond, ◌&&◌, and-false}
use mathlib.Core.Option.{Option, none, some}
use Prim.Native.Nat.{ℕ, zero, suc, ◌+◌, ◌*◌, ◌/◌, ◌%◌, ◌≤◌, ◌<◌}
use native.Mathlib.Omega.{arith}
use lib.Dec.{eqb, ltb}
use lib.ListN.{get_or}
use borrow.Author.Tests.{lt-ltb, le-ltb, eqb-true, eqb-false, ltb-true}
use Rattle.base.proofs.Lists.{cell_of_lem, same_list, length_list_from}
use Rattle.base.proofs.Options.{none-some}
use Rattle.base.proofs.Tests.{by_test, not_both}
use Rattle.limits.specs.Limits.{most_symbols, empty_set, table_cells}
use Rattle.masks.specs.Masks.{has}
use Rattle.forms.specs.declared.Form.{Form}
use Rattle.forms.specs.Form.{cell, how_many, kept_at}
use Rattle.forms.specs.Back.{rank, kept_count, lookup, cell_of, back_number, back_cell, back_by, back_of, table_of}
use Rattle.forms.specs.Claims.{IsTable, Alike}
use Rattle.forms.proofs.Picking.{many_lt, many_same}
use Rattle.forms.proofs.Accepting.{Accepted, parts, accepted_of, none_or_40}
use Rattle.forms.proofs.Trip.{place}

-- ---- an accepted form
module _ (f : Form) (a : Accepted f) where
  -- a cell that is left out is not set 0's
  pub above : (t s : ℕ) → s < f.symbols → has (get_or f.kept t 0) s ≡ false → 0 < t
  above t s d e =
      by_test (eqb t 0)
      (λ z. let q : t ≡ 0 = eqb-true t 0 z in not_both (a.whole s d) (rw q at e))
      (λ z. omega (arith, eqb-false t 0 z))

  -- more sets than t are as good as t + 1
  enough : (m v t s : ℕ) → t < m → t < v → t < f.sets → s < f.symbols → lookup f m t s ≡ lookup f v t s
  unfolding lookup
  enough zero v t s h b c d = absurd (omega arith)
  enough (suc m) zero t s h b c d = absurd (omega arith)
  enough (suc m) (suc v) t s h b c d =
      by_test (has (get_or f.kept t 0) s)
      (λ e. rw e)
      (λ e.
      let g = a.down t (above t s d e) c in
      rw e (enough m v (get_or f.failure t 0) s (omega arith) (omega arith) (omega arith) d))

  pub cell-is : (t s : ℕ) → t < f.sets → s < f.symbols
      → cell_of f t s ≡ cond (has (get_or f.kept t 0) s) (get_or f.cells (rank f t s) 0) (cell_of f (get_or f.failure t 0) s)
  unfolding lookup
  cell-is t s h d =
      by_test (has (get_or f.kept t 0) s)
      (λ e. rw e)
      (λ e.
      let g = a.down t (above t s d e) h in
      rw e (enough t (suc (get_or f.failure t 0)) (get_or f.failure t 0) s (omega arith) (omega arith) (omega arith) d))

  -- a kept cell stands before the last
  pub rank_lt : (t s : ℕ) → t < f.sets → s < f.symbols → has (get_or f.kept t 0) s ≡ true → rank f t s < kept_count f
  rank_lt t s h d e =
      let w = a.symbols in
      let q = place t s (omega arith) in
      let e' : kept_at f.kept (t * most_symbols + s) ≡ true = rw (q.0, q.1) e in
      many_lt (kept_at f.kept) (t * most_symbols + s) (f.sets * most_symbols) (omega arith) e'

  -- each cell is one of those that are kept
  named : (m t s : ℕ) → t < m → t < f.sets → s < f.symbols → (lookup f m t s ≡ empty_set) ⊎ (lookup f m t s < f.sets)
  unfolding lookup
  named zero t s h c d = absurd (omega arith)
  named (suc m) t s h c d =
      by_test (has (get_or f.kept t 0) s)
      (λ e. rw e (a.names (rank f t s) (rank_lt t s c d e)))
      (λ e.
      let g = a.down t (above t s d e) c in
      rw e (named m (get_or f.failure t 0) s (omega arith) (omega arith) d))

  back_at : (c : ℕ) → c < table_cells → get_or (table_of f).next c 0 ≡ back_cell f c
  back_at c h = cell_of_lem table_cells (back_cell f) c 0 h

  back_cell_lem : (t s : ℕ) → t < f.sets → s < f.symbols → cell (table_of f).next t s ≡ cell_of f t s
  back_cell_lem t s h d =
      let w = a.symbols in
      let y = a.sets in
      let q = place t s (omega arith) in
      back_at (t * most_symbols + s) (omega arith) ∙ rw (q.0, q.1, lt-ltb t f.sets h, lt-ltb s f.symbols d)

  pub looked_up_lem : (t s : ℕ) → t < f.sets → s < f.symbols
      → cell (table_of f).next t s ≡ cond (has (get_or f.kept t 0) s) (get_or f.cells (rank f t s) 0) (cell (table_of f).next (get_or f.failure t 0) s)
  looked_up_lem t s h d =
      back_cell_lem t s h d ∙ cell-is t s h d
      ∙ by_test (has (get_or f.kept t 0) s)
      (λ e. rw e)
      (λ e.
      let g = a.down t (above t s d e) h in
      rw e (sym (back_cell_lem (get_or f.failure t 0) s (omega arith) d)))

  pub a_table : IsTable f.sets f.symbols (table_of f).next
  a_table = record {
    numbered = record {
      some_set = a.some_set;
      sets = a.sets;
      some_symbol = a.some_symbol;
      symbols = a.symbols;
      names = λ t s h d. rw (back_cell_lem t s h d) (named (suc t) t s (omega arith) h d);
    };
    long = length_list_from 0 table_cells (back_cell f);
    unused = λ c h o. back_at c h ∙ ⊎_elim
        (λ x. rw (le-ltb (c / 16) f.sets x))
        (λ x. rw (le-ltb (c % 16) f.symbols x, and-false (ltb (c / 16) f.sets)))
        o;
  }

-- ---- what is not read
module _ (f g : Form) (a : Alike f g) where
  kept_same : (c : ℕ) → c < f.sets * most_symbols → kept_at f.kept c ≡ kept_at g.kept c
  kept_same c h = ap (λ (x : ℕ). has x (c % 16)) (a.kept (c / 16) (omega arith))

  counts_same : (c : ℕ) → c ≤ f.sets * most_symbols → how_many (kept_at f.kept) c ≡ how_many (kept_at g.kept) c
  counts_same c h = many_same (kept_at f.kept) (kept_at g.kept) c (λ x b. kept_same x (omega arith))

  count_same : kept_count f ≡ kept_count g
  count_same = counts_same (f.sets * most_symbols) (omega arith) ∙ ap (λ (x : ℕ). how_many (kept_at g.kept) (x * most_symbols)) a.sets

  turned : Alike g f
  turned = record {
    sets = sym a.sets;
    symbols = sym a.symbols;
    failure = λ t z h. sym (a.failure t z (omega (arith, a.sets)));
    kept = λ t h. sym (a.kept t (omega (arith, a.sets)));
    cells = λ i h. sym (a.cells i (omega (arith, count_same)));
  }

  accepted_too : Accepted f → Accepted g
  accepted_too w = record {
    some_set = omega (arith, a.sets, w.some_set);
    sets = omega (arith, a.sets, w.sets);
    some_symbol = omega (arith, a.symbols, w.some_symbol);
    symbols = omega (arith, a.symbols, w.symbols);
    down = λ t z h. let b : t < f.sets = omega (arith, a.sets) in rw (a.failure t z b) at (w.down t z b);
    whole = λ s h. let e : get_or f.kept 0 0 ≡ get_or g.kept 0 0 = a.kept 0 (omega (arith, w.some_set)) in rw e at (w.whole s (omega (arith, a.symbols)));
    only = λ t h. let b : t < f.sets = omega (arith, a.sets) in rw (a.kept t b, a.symbols) at (w.only t b);
    names = λ i h. let b : i < kept_count f = omega (arith, count_same) in rw (a.sets, a.cells i b) at (w.names i b);
  }

  lookup_same : Accepted f → (m t s : ℕ) → t < f.sets → s < f.symbols → lookup f m t s ≡ lookup g m t s
  unfolding lookup
  lookup_same w zero t s h d = refl
  lookup_same w (suc m) t s h d =
      by_test (has (get_or f.kept t 0) s)
      (λ e.
      let e₂ : has (get_or g.kept t 0) s ≡ true = rw (a.kept t h) at e in
      let y = w.symbols in
      let i : rank f t s ≡ rank g t s = counts_same (t * most_symbols + s) (omega arith) in
      rw (e, e₂) (a.cells (rank f t s) (rank_lt f w t s h d e) ∙ ap (λ (x : ℕ). get_or g.cells x 0) i))
      (λ e.
      let e₂ : has (get_or g.kept t 0) s ≡ false = rw (a.kept t h) at e in
      let z = above f w t s d e in
      let b = w.down t z h in
      rw (e, e₂, ← a.failure t z h) (lookup_same w m (get_or f.failure t 0) s (omega arith) d))

  cell_same : Accepted f → (t s : ℕ)
      → cond (ltb t f.sets && ltb s f.symbols) (cell_of f t s) empty_set ≡ cond (ltb t g.sets && ltb s g.symbols) (cell_of g t s) empty_set
  cell_same w t s =
      by_test (ltb t f.sets)
      (λ e.
      let e₂ : ltb t g.sets ≡ true = rw a.sets at e in
      by_test (ltb s f.symbols)
      (λ d.
      let d₂ : ltb s g.symbols ≡ true = rw a.symbols at d in
      rw (e, e₂, d, d₂) (lookup_same w (suc t) t s (ltb-true t f.sets e) (ltb-true s f.symbols d)))
      (λ d. let d₂ : ltb s g.symbols ≡ false = rw a.symbols at d in rw (e, e₂, d, d₂)))
      (λ e. let e₂ : ltb t g.sets ≡ false = rw a.sets at e in rw (e, e₂))

  table_same : Accepted f → table_of f ≡ table_of g
  table_same w =
      let cells = same_list table_cells (back_cell f) (back_cell g) (λ c h. cell_same w (c / 16) (c % 16)) in
      let n = a.sets in
      let k = a.symbols in
      cc

pub not_read : (f g : Form) → Alike f g → back_of f ≡ back_of g
not_read f g a =
    ⊎_elim
    (λ n.
    let w = parts f n in
    let too : back_number g ≡ none = accepted_of g (accepted_too f g a w) in
    rw (n, too) (ap (back_by none) (table_same f g a w)))
    (λ s.
    let too : back_number g ≡ some 40
    = ⊎_elim (λ n. none-some (accepted_of f (accepted_too g f (turned f g a) (parts g n))) s) (λ x. x) (none_or_40 g) in
    ap (λ (o : Option ℕ). back_by o (table_of f)) s ∙ sym (ap (λ (o : Option ℕ). back_by o (table_of g)) too))
    (none_or_40 f)
