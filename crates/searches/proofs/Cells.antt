-- The first key that meets a test, and the first cell that holds a number, as loops find them.
-- Assumes, for a cell, the table of the keys of a walk.
--
--   where_found, where_none   the loop over the keys stops at a key, or at their end
--   cell_found, cell_none     the loop over the rows stops in a row, or cannot end
--   row_passed                a row without the number is passed
--   lower, word_more          the way back, for the table as the code has it
use mathlib.Core.Path.{◌≡◌, sym, ap, ◌∙◌, subst}
use mathlib.Core.Bool.{Bool, true, false, cond}
use mathlib.Core.List.{List, [], ◌∷◌, ◌++◌}
use Prim.Native.Nat.{ℕ, ◌+◌, ◌*◌, ◌/◌, ◌%◌, ◌≤◌, ◌<◌}
use native.Mathlib.Omega.{arith}
use lib.Dec.{ltb}
use lib.ListN.{length, get_or, take}
use lib.Seq.{get_or-take, length-take-le}
use borrow.Author.Tests.{ltb-true, ltb-false}
use Rattle.base.proofs.Lists.{length_list_from}
use Rattle.base.proofs.Tests.{by_test}
use Rattle.numbering.specs.Numbering.{Walk, index_of, keys_up_to}
use Rattle.numbering.proofs.Numbers.{number_at, number_is}
use Rattle.keys.specs.Tables.{cells_of, cells_to}
use Rattle.searches.specs.Search.{first_where, first_cell, word_to}
use Rattle.searches.proofs.Firsts.{where_is}
use Rattle.searches.proofs.WayBack.{in_use, Step, way_back, word_of}
use Rattle.searches.specs.mirror.Tables.{Tabled, FirstIn}

-- ---- the first key
module _ (t : ℕ → Bool) (keys : List ℕ) (count i : ℕ) (long : count ≤ length keys) (before : (j : ℕ) → j < i → t (get_or keys j 0) ≡ false) where
  has : length (take count keys) ≡ count
  has = length-take-le count keys long

  pub where_found : i < count → t (get_or keys i 0) ≡ true → i ≡ first_where t (take count keys)
  where_found b e =
      where_is t (take count keys) i (omega (arith, has)) (λ _. ap t (get_or-take count keys i 0 b) ∙ e)
      (λ j d. ap t (get_or-take count keys j 0 (omega arith)) ∙ before j d)

  pub where_none : i ≤ count → count ≤ i → i ≡ first_where t (take count keys)
  where_none b c =
      where_is t (take count keys) i (omega (arith, has)) (λ d. absurd (omega (arith, has)))
      (λ j d. ap t (get_or-take count keys j 0 (omega arith)) ∙ before j d)

-- ---- the first cell
module _ (cells : List ℕ) (k j : ℕ) (t : Tabled cells k j) where
  abbrev a : Walk
  a = t.walk

  abbrev keys : List ℕ
  keys = keys_up_to t.walk (λ _. t.start) 1

  long : length cells ≡ 8192
  long = rw t.are (length_list_from 0 8192 (λ c. cond (ltb c (index_of (cells_of a keys) 512)) (get_or (cells_of a keys) c 0) 0))

  pub word_short : length (word_to cells j) ≤ 511
  word_short = rw t.are (omega (arith, (word_of a t.start t.columns t.kept j t.below t.small).short, t.small))

  pub few_symbols : k ≤ 16
  few_symbols = omega (arith, t.symbols, t.columns)

  module _ (some : 0 < j) where
    step : Step a t.start t.columns t.kept j
    step = way_back a t.start t.columns t.kept j some t.below t.small

    pub lower : first_cell cells j / 16 < j
    lower = rw t.are step.lower

    pub word_more : word_to cells j ≡ word_to cells (first_cell cells j / 16) ++ ((first_cell cells j % 16) ∷ [])
    word_more = subst (λ (x : List ℕ). word_to x j ≡ word_to x (first_cell x j / 16) ++ ((first_cell x j % 16) ∷ [])) (sym t.are) step.more

    pub tabled_back : Tabled cells k (first_cell cells j / 16)
    tabled_back = record {
      walk = t.walk;
      start = t.start;
      kept = t.kept;
      columns = t.columns;
      symbols = t.symbols;
      are = t.are;
      below = omega (arith, lower, t.below);
      small = omega (arith, lower, t.small);
    }

    -- the number stands there
    there : get_or cells (first_cell cells j) 0 ≡ j
    there = number_at cells j (omega (arith, lower, t.small, long))

    -- a cell past a row's symbols does not hold it
    row_used : (c : ℕ) → c < 8192 → get_or cells c 0 ≡ j → c % 16 < k
    row_used c b e =
        let f : get_or (cells_to a keys) c 0 ≡ j = ap (λ (x : List ℕ). get_or x c 0) (sym t.are) ∙ e in
        omega (arith, (in_use a t.start t.columns t.kept c j b some f).1, t.symbols)

    -- the rows before `row` are passed, and what row `row` has
    module _ (row : ℕ) (low : row < j) (s : ℕ) (first : FirstIn cells row k j s) (passed : (c : ℕ) → c < row * 16 → get_or cells c 0 ≡ j → ⊥) where
      -- no cell of the row before s
      passed_more : (c : ℕ) → c < row * 16 + s → get_or cells c 0 ≡ j → ⊥
      passed_more c b e =
          by_test (ltb c (row * 16))
          (λ x. passed c (ltb-true c (row * 16) x) e)
          (λ x.
          let low = ltb-false c (row * 16) x in
          let d = first.most in
          let is : row * 16 + c % 16 ≡ c = omega (arith, few_symbols) in
          first.before (c % 16) (omega (arith, few_symbols)) (ap (λ (y : ℕ). get_or cells y 0) is ∙ e))

      pub cell_found : s < k → row * 16 + s ≡ first_cell cells j
      cell_found b =
          sym (number_is cells j (row * 16 + s) (omega (arith, long, few_symbols, t.small)) (first.leads b) passed_more)

      pub row_passed : k ≤ s → (c : ℕ) → c < (row + 1) * 16 → get_or cells c 0 ≡ j → ⊥
      row_passed b c d e =
          let in_row = row_used c (omega (arith, t.small)) e in
          passed_more c (omega arith) e

    pub cell_none : (row : ℕ) → j ≤ row → ((c : ℕ) → c < row * 16 → get_or cells c 0 ≡ j → ⊥) → ⊥
    cell_none row b passed = passed (first_cell cells j) (omega (arith, lower)) there
