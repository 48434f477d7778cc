-- The way back from a failure form to the table (document 02, R-14), for any value of the form.
--
--   rank f t s      how many kept cells stand before that of set t and symbol s
--   kept_count f    how many kept cells there are
--   cell_of f t s    the cell of set t and symbol s: the kept one, or the failure set's
--   back_number f   the number with which the form is refused: 40 for each of five reasons, in any
--                   order; none where it is accepted
--   table_of f       the table; a cell that is not in use is 512, as in a built rule
--   Back            the outcome: the number of a refusal, if it is one, and the table
--   back_of f       the outcome of the form f; zeros stand beside a refusal
--   back_outcome      what the code's result says
use Rattle.std.specs.Prelude.{Result, Ok, Err, Bool, cond, not, ◌&&◌, ◌||◌, List, [], ◌∷◌, ℕ, zero, suc, ◌+◌, ◌*◌, ◌/◌, ◌%◌, ◌^◌, eqb, ltb, leb, get_or, replicate}
use Rattle.std.proofs.Math.Option.{Option, none, some}
use Rattle.base.specs.declared.Refusal.{Refusal}
use Rattle.base.specs.Answers.{refusal_number}
use Rattle.base.specs.Conditions.{Condition, on, first_of, outside, any_below}
use Rattle.base.specs.Lists.{list_from}
use Rattle.limits.specs.Limits.{most_symbols, most_sets, empty_set, table_cells}
use Rattle.masks.specs.Masks.{has}
use Rattle.forms.specs.declared.Form.{Form}
use Rattle.forms.specs.declared.Table.{Table}
use Rattle.forms.specs.Form.{how_many, kept_at}

-- ---- a cell
abbrev pub rank : Form → ℕ → ℕ → ℕ
rank f t s = how_many (kept_at f.kept) (t * most_symbols + s)

abbrev pub kept_count : Form → ℕ
kept_count f = how_many (kept_at f.kept) (f.sets * most_symbols)

-- by way of at most m sets
unfoldable pub lookup : Form → ℕ → ℕ → ℕ → ℕ
lookup f zero t s = empty_set
lookup f (suc m) t s =
    cond (has (get_or f.kept t 0) s) (get_or f.cells (rank f t s) 0) (lookup f m (get_or f.failure t 0) s)

-- failure sets go down to set 0, which keeps all, so that t + 1 sets are enough
abbrev pub cell_of : Form → ℕ → ℕ → ℕ
cell_of f t s = lookup f (suc t) t s

-- ---- 40
-- set t is above 0 and its failure set is not below it
abbrev pub not_below : List ℕ → ℕ → Bool
not_below failure t = not (eqb t 0) && leb t (get_or failure t 0)

-- x names a set that a table of n sets lacks; 512 names none
abbrev pub lacking : ℕ → ℕ → Bool
lacking n x = not (eqb x empty_set) && leb n x

-- not 1 to 512 sets and 1 to 16 symbols
abbrev pub bad_numbers : ℕ → ℕ → Bool
bad_numbers n k = outside 1 most_sets n || outside 1 most_symbols k

abbrev pub some_not_below : ℕ → List ℕ → Bool
some_not_below n failure = any_below (not_below failure) n

-- a cell is left out of set 0
abbrev pub first_lacks : ℕ → List ℕ → Bool
first_lacks k kept = any_below (λ s. not (has (get_or kept 0 0) s)) k

-- a mask has a bit for no symbol: it is not below 2 ^ k
abbrev pub stray_bits : ℕ → ℕ → List ℕ → Bool
stray_bits n k kept = any_below (λ t. leb (2 ^ k) (get_or kept t 0)) n

-- one of so many kept cells names a set that the table lacks
abbrev pub some_lacking : ℕ → ℕ → List ℕ → Bool
some_lacking n count cells = any_below (λ i. lacking n (get_or cells i 0)) count

abbrev pub back_conditions : Form → List Condition
back_conditions f =
    on 40 (bad_numbers f.sets f.symbols) ∷
    on 40 (some_not_below f.sets f.failure) ∷
    on 40 (first_lacks f.symbols f.kept) ∷
    on 40 (stray_bits f.sets f.symbols f.kept) ∷
    on 40 (some_lacking f.sets (kept_count f) f.cells) ∷ []

unfoldable pub back_number : Form → Option ℕ
back_number f = first_of (back_conditions f)

-- ---- the table
abbrev pub back_cell : Form → ℕ → ℕ
back_cell f c =
    cond (ltb (c / most_symbols) f.sets && ltb (c % most_symbols) f.symbols)
    (cell_of f (c / most_symbols) (c % most_symbols))
    empty_set

abbrev pub table_of : Form → Table
table_of f = record { sets = f.sets; symbols = f.symbols; next = list_from 0 table_cells (back_cell f) }

abbrev pub no_table : Table
no_table = record { sets = 0; symbols = 0; next = replicate table_cells 0 }

pub record Back : Type 0 where
  pub number : Option ℕ
  pub table : Table

abbrev pub back_by : Option ℕ → Table → Back
back_by none t = record { number = none; table = t }
back_by (some number) t = record { number = some number; table = no_table }

abbrev pub back_of : Form → Back
back_of f = back_by (back_number f) (table_of f)

-- ---- the code's answer
abbrev pub back_outcome : Result Table Refusal → Back
back_outcome (Ok table) = record { number = none; table = table }
back_outcome (Err refusal) = record { number = some (refusal_number refusal); table = no_table }
