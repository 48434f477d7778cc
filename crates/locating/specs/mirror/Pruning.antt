-- The next-set table in which a set without a live state is the empty set, over any arrays whatever:
-- a run over it dies where nothing can follow. Nothing here needs to be believed: crates/losses says
-- what it comes to for a built rule.
--
--   live_set d n           the states below n that have a delegate, as a set
--   kept_cell sets live c  the cell c where its set has a state of `live`, else the empty set
--   pruned sets next live count   the table whose cells are kept so in the rows of the first sets, so
--                          many as count says; the others are empty
use Rattle.std.specs.Prelude.{cond, List, ℕ, zero, suc, ◌*◌, ltb, get_or}
use Rattle.std.specs.Int.Bits.{bit_or}
use Rattle.limits.specs.Limits.{most_states, most_symbols, empty_set, table_cells}
use Rattle.base.specs.Lists.{list_from}
use Rattle.masks.specs.Masks.{single, shares}
use Rattle.chunks.specs.mirror.Walks.{mask_of}

unfoldable pub live_set : List ℕ → ℕ → ℕ
live_set d zero = 0
live_set d (suc q) = bit_or (live_set d q) (cond (ltb (get_or d q 0) most_states) (single q) 0)

abbrev pub kept_cell : List ℕ → ℕ → ℕ → ℕ
kept_cell sets live c = cond (shares (mask_of sets c) live) c empty_set

abbrev pub pruned : List ℕ → List ℕ → ℕ → ℕ → List ℕ
pruned sets next live count = list_from 0 table_cells (λ i. cond (ltb i (count * most_symbols)) (kept_cell sets live (get_or next i 0)) empty_set)
