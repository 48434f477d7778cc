-- Successors that a walk found before: how it goes fast. No promise to a customer cites what is here.
--
--   cache_rows, cache_cells  61 rows, of a cell for each of 16 symbols
--   Cached ts from to rows   each cell c is right: by symbol c % 16 the set from[c] leads to to[c]; and
--                            rows[c] is a row
--   Stepped ts m b r ..      the set after the byte b, which may be an idle mark, from the set m; and the
--                            cache is right as it is left
use Rattle.std.specs.Prelude.{◌≡◌, ℕ, ◌*◌, ◌%◌, ◌<◌, List, [], ◌∷◌, length, slice_index}
use Rattle.limits.specs.Limits.{most_symbols}
use Rattle.automaton.specs.Successor.{successor}
use Rattle.follow.specs.declared.Here.{Here}
use Rattle.follow.specs.Following.{set_after}

abbrev pub cache_rows : ℕ
cache_rows = 61

abbrev pub cache_cells : ℕ
cache_cells = cache_rows * most_symbols

pub record Cached (ts from to rows : List ℕ) : Type 0 where
  pub from_cells : length from ≡ cache_cells
  pub to_cells : length to ≡ cache_cells
  pub row_cells : length rows ≡ cache_cells
  pub right : (c : ℕ) → c < cache_cells → slice_index to c ≡ successor ts (slice_index from c) (c % most_symbols)
  pub is_row : (c : ℕ) → c < cache_cells → slice_index rows c < cache_rows

pub record Stepped (ts : List ℕ) (m b : ℕ) (r : Here) (from to rows : List ℕ) : Type 0 where
  pub set : r.set ≡ set_after ts m (b ∷ [])
  pub row : r.row < cache_rows
  pub cached : Cached ts from to rows
