-- The failure form of a next-set table (document 02, R-14): of n sets and k symbols and the list l of
-- the table's cells, 16 for each set, where 512 stands for the empty set.
--
--   cell l t s          the cell of set t and symbol s
--   how_many p n        how many numbers below n pass the test p
--   picked p g n        the list of g over the numbers below n that pass the test p, in order
--   equal_cells l k t u  in how many symbols the sets t and u have equal cells, empty ones too
--   failure_of l k t    the failure set: the lower-numbered set with most equal cells, the lowest on
--                       ties; 0 for set 0
--   keeps l k t s       the cell is kept: set 0 keeps all, another set those that are not equal to
--                       its failure set's
--   kept_mask l k t     the kept cells of set t as a mask, bit s for symbol s
--   kept_at kept c       by these masks the cell c, of set c / 16 and symbol c % 16, is kept
--   packed_cells        the kept cells, packed by set and symbol, and zeros after them
--   for_set n g t       g of the set t; 0 where there is no such set among n
--   form_of n k l        the form; zeros for what is no set of the table
use Rattle.std.specs.Prelude.{Bool, cond, not, ◌||◌, List, [], ◌∷◌, ℕ, zero, suc, ◌+◌, ◌*◌, ◌/◌, ◌%◌, eqb, ltb, get_or}
use Rattle.base.specs.Lists.{list_from, joined}
use Rattle.base.specs.Totals.{total}
use Rattle.limits.specs.Limits.{most_symbols, most_sets, table_cells}
use Rattle.masks.specs.Masks.{has, mask_of}
use Rattle.forms.specs.declared.Form.{Form}

-- ---- the numbers that pass a test
abbrev pub how_many : (ℕ → Bool) → ℕ → ℕ
how_many p n = total (λ i. cond (p i) 1 0) n

abbrev pub picked : (ℕ → Bool) → (ℕ → ℕ) → ℕ → List ℕ
picked p g n = joined (λ i. cond (p i) (g i ∷ []) []) n

-- ---- the failure set
abbrev pub cell : List ℕ → ℕ → ℕ → ℕ
cell l t s = get_or l (t * most_symbols + s) 0

abbrev pub equal_cells : List ℕ → ℕ → ℕ → ℕ → ℕ
equal_cells l k t u = how_many (λ s. eqb (cell l t s) (cell l u s)) k

-- the lowest of the sets below u with most cells equal to those of set t
unfoldable pub best_below : List ℕ → ℕ → ℕ → ℕ → ℕ
best_below l k t zero = 0
best_below l k t (suc u) =
    let best = best_below l k t u in
    cond (ltb (equal_cells l k t best) (equal_cells l k t u)) u best

abbrev pub failure_of : List ℕ → ℕ → ℕ → ℕ
failure_of l k t = best_below l k t t

-- ---- the kept cells
-- set 0 keeps its cells, another set t those that are not equal to the cells of set u
abbrev pub keeps_from : List ℕ → ℕ → ℕ → ℕ → Bool
keeps_from l t u s = eqb t 0 || not (eqb (cell l t s) (cell l u s))

unfoldable pub keeps : List ℕ → ℕ → ℕ → ℕ → Bool
keeps l k t s = keeps_from l t (failure_of l k t) s

abbrev pub kept_mask : List ℕ → ℕ → ℕ → ℕ
kept_mask l k t = mask_of (keeps l k t) k

abbrev pub kept_at : List ℕ → ℕ → Bool
kept_at kept c = has (get_or kept (c / most_symbols) 0) (c % most_symbols)

abbrev pub packed_cells : List ℕ → List ℕ → ℕ → List ℕ
packed_cells kept l n =
    list_from 0 table_cells (λ i. get_or (picked (kept_at kept) (λ c. get_or l c 0) (n * most_symbols)) i 0)

-- ---- the form
abbrev pub for_set : ℕ → (ℕ → ℕ) → ℕ → ℕ
for_set n g t = cond (ltb t n) (g t) 0

module _ (n k : ℕ) (l : List ℕ) where
  abbrev pub failures : List ℕ
  failures = list_from 0 most_sets (for_set n (failure_of l k))

  abbrev pub masks : List ℕ
  masks = list_from 0 most_sets (for_set n (kept_mask l k))

  abbrev pub form_of : Form
  form_of = record {
    sets = n;
    symbols = k;
    failure = failures;
    kept = masks;
    cells = packed_cells masks l n;
  }
