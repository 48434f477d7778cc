-- The numbered sets and the next-set table (document 01, "Sets and their order"; document 004,
-- section 3.1), of a rule with the targets `ts`, n states and k symbols. The procedure is that of
-- the crate numbering: a set leads to its successors, the empty set is left out, and the seeds are
-- the sets {q}. A set's number is its place in a list; 512 stands for the empty set, which has no
-- number.
--
--   set_walk ts k        sets as the keys of numbering
--   index_of sets m      the number of the set m; the list's length where it has none
--   sets_up_to ts k q    the procedure, for the states below q
--   sets_of ts n k       the numbered sets, in number order
--   too_many ts n k      there are more than 512 (9)
--   next_set ts n k i s  the next-set table: the number of the successor of set i by s, or 512
--   set_cells, next_cells  both as arrays; a cell not in use is 0 or 512
use Rattle.std.specs.Prelude.{Bool, List, ℕ, ◌/◌, ◌%◌, min, eqb, ltb, length, get_or}
use Rattle.limits.specs.Limits.{most_states, most_symbols, most_sets, table_cells}
use Rattle.base.specs.Lists.{list_from}
use Rattle.masks.specs.Masks.{single}
use Rattle.automaton.specs.Successor.{successor}
use Rattle.numbering.specs.Numbering.{Walk, keys_up_to, next_of}
unfoldable pub use Rattle.numbering.specs.Numbering.{index_of}

abbrev pub is_empty : ℕ → Bool
is_empty m = eqb m 0

abbrev pub set_walk : List ℕ → ℕ → Walk
set_walk ts k = record { step = successor ts; skips = is_empty; k = k }

-- for each state q in order: {q} is numbered, and the sets not yet expanded are expanded, which are
-- those from there on
abbrev pub sets_up_to : List ℕ → ℕ → ℕ → List ℕ
sets_up_to ts k q = keys_up_to (set_walk ts k) single q

-- a rule has at most 32 states; a value that says more is taken to have 32
unfoldable pub sets_of : List ℕ → ℕ → ℕ → List ℕ
sets_of ts n k = sets_up_to ts k (min n most_states)

unfoldable pub too_many : List ℕ → ℕ → ℕ → Bool
too_many ts n k = ltb most_sets (length (sets_of ts n k))

unfoldable pub next_set : List ℕ → ℕ → ℕ → ℕ → ℕ → ℕ
next_set ts n k i s = next_of (set_walk ts k) (sets_of ts n k) i s

abbrev pub set_cells : List ℕ → ℕ → ℕ → List ℕ
set_cells ts n k = list_from 0 most_sets (λ i. get_or (sets_of ts n k) i 0)

abbrev pub next_cells : List ℕ → ℕ → ℕ → List ℕ
next_cells ts n k = list_from 0 table_cells (λ cell. next_set ts n k (cell / most_symbols) (cell % most_symbols))
