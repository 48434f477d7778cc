-- The number of {q} for each state q (document 01, "Sets and their order"). `sets` is the array of
-- numbered sets, of which the first `count` cells are in use.
--
--   singleton_number sets count q  the number of {q}, or 512, which stands for the empty set
--   singles_of sets count          that number for each of the 32 states
use Rattle.std.specs.Prelude.{cond, List, ℕ, ltb, take}
use Rattle.limits.specs.Limits.{most_states, empty_set}
use Rattle.base.specs.Lists.{list_from}
use Rattle.masks.specs.Masks.{single}
use Rattle.subsets.specs.Sets.{index_of}

unfoldable pub singleton_number : List ℕ → ℕ → ℕ → ℕ
singleton_number sets count q = let i = index_of (take count sets) (single q) in cond (ltb i count) i empty_set

abbrev pub singles_of : List ℕ → ℕ → List ℕ
singles_of sets count = list_from 0 most_states (singleton_number sets count)
