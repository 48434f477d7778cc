-- What `number_by` and `number_keys` promise of any tables of targets, any k and any first key.
--
--   Table, table_as      the number of keys, none where there are more than 512, with the arrays
--   table_outcome        beside it; and what a number and two arrays of the code stand for, and its
--                        result
--   keys_by, keys_of      the keys that texts lead to from the key m, in number order
--   cell_of a l i s       the number of the key that key i of the keys l leads to by the symbol s;
--                        0 where there is no such key or symbol
--   cells_of a l          the table, 16 cells for each of the first 512 keys
--   cells_to a l         the table up to its first cell that leads past these keys; zeros from there
--                        on. Where there are at most 512 keys that is the whole table
--   table_for a l        the number of the keys l, or that there are more than 512; the first 512 of
--                        them, and their table
--   table_by, table_of    the table of the keys
use Rattle.std.specs.Prelude as code
use Rattle.std.specs.Prelude.{cond, ◌&&◌, List, ℕ, ◌/◌, ◌%◌, min, ltb, length, get_or}
use Rattle.std.proofs.Math.Option.{Option}
use Rattle.limits.specs.Limits.{most_symbols, most_sets, table_cells}
use Rattle.base.specs.Options.{option_of}
use Rattle.base.specs.Lists.{list_from}
use Rattle.numbering.specs.Numbering.{Walk, index_of, keys_up_to}
use Rattle.numbering.specs.mirror.Arrays.{limited, key_cells}
use Rattle.keys.specs.declared.Kind.{Kind}
use Rattle.keys.specs.declared.KeyTable.{KeyTable}
use Rattle.keys.specs.Kinds.{walk_by}

pub record Table : Type 0 where
  pub count : Option ℕ
  pub keys : List ℕ
  pub next : List ℕ

abbrev pub table_as : code.Option ℕ → List ℕ → List ℕ → Table
table_as count keys next = record { count = option_of count; keys = keys; next = next }

abbrev pub table_outcome : KeyTable → Table
table_outcome t = table_as t.count t.keys t.next

-- (a rule has at most 16 symbols; a value that says more is taken to have 16)
abbrev pub keys_by : Kind → List ℕ → List ℕ → ℕ → ℕ → List ℕ
keys_by kind ts us k m = keys_up_to (walk_by kind ts us (min k most_symbols)) (λ _. m) 1

abbrev pub keys_of : Kind → List ℕ → ℕ → ℕ → List ℕ
keys_of kind ts k m = keys_by kind ts ts k m

abbrev pub cell_of : Walk → List ℕ → ℕ → ℕ → ℕ
cell_of a l i s = cond (ltb i (length l) && ltb s a.k) (index_of l (a.step (get_or l i 0) s)) 0

abbrev pub cells_of : Walk → List ℕ → List ℕ
cells_of a l = list_from 0 table_cells (λ c. cell_of a l (c / most_symbols) (c % most_symbols))

abbrev pub cells_to : Walk → List ℕ → List ℕ
cells_to a l =
    let cells = cells_of a l in
    list_from 0 table_cells (λ c. cond (ltb c (index_of cells most_sets)) (get_or cells c 0) 0)

abbrev pub table_for : Walk → List ℕ → Table
table_for a l = record { count = limited l; keys = key_cells l; next = cells_to a l }

unfoldable pub table_by : Kind → List ℕ → List ℕ → ℕ → ℕ → Table
table_by kind ts us k m = table_for (walk_by kind ts us (min k most_symbols)) (keys_by kind ts us k m)

abbrev pub table_of : Kind → List ℕ → ℕ → ℕ → Table
table_of kind ts k m = table_by kind ts ts k m
