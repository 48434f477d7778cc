-- What the functions of this crate ask of each other; `merge` itself asks nothing. A rule that
-- passes its check meets all of it.
--
--   Sizes way n1 n2          two numbers of states, of at least one state each, and at most 32 in
--                            the result
--   Masks a b n1 n2          a set of n1 states and one of n2
--   Tables n1 n2 ts us       tables whose target masks are such sets
use Rattle.std.specs.Prelude.{ℕ, ◌^◌, ◌<◌, ◌≤◌, List}
use Rattle.limits.specs.Limits.{most_states}
use Rattle.automaton.specs.Rules.{target_mask}
use Rattle.merging.specs.declared.Way.{Way}
use Rattle.merging.specs.Merged.{states_of}

pub record Sizes (way : Way) (n1 n2 : ℕ) : Type 0 where
  pub first : (1 ≤ n1) × (n1 ≤ most_states)
  pub second : (1 ≤ n2) × (n2 ≤ most_states)
  pub fits : states_of way n1 n2 ≤ most_states

pub record Masks (a b n1 n2 : ℕ) : Type 0 where
  pub first : a < 2 ^ n1
  pub second : b < 2 ^ n2

pub record Tables (n1 n2 : ℕ) (ts us : List ℕ) : Type 0 where
  pub first : (q s : ℕ) → q < most_states → target_mask ts q s < 2 ^ n1
  pub second : (q s : ℕ) → q < most_states → target_mask us q s < 2 ^ n2
