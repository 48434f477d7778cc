-- The states from which a final state can be reached, as a mask that is computed from the rule alone:
-- backwards from the final states. specs/Claims.antt says that these are delegates' `Live` ones.
--
--   leads ts m q     some arc leads from state q to a member of m
--   back_to ts m     m, with every state from which an arc leads to a member of m
--   within ts m i    the states from which at most i arcs lead to a member of m
--   live_of r         the states of the rule r from which a final state can be reached: a rule has at
--                    most 32 states, so 32 arcs are enough
use Rattle.std.specs.Prelude.{Bool, List, ℕ}
use Rattle.std.specs.Int.Bits.{bit_or}
use Rattle.limits.specs.Limits.{most_states, most_symbols}
use Rattle.base.specs.Conditions.{any_below}
use Rattle.masks.specs.Masks.{shares, mask_of}
use Rattle.masks.specs.Turns.{turns}
use Rattle.automaton.specs.declared.Rule.{Rule}
use Rattle.automaton.specs.Rules.{target_mask}

abbrev pub leads : List ℕ → ℕ → ℕ → Bool
leads ts m q = any_below (λ s. shares (target_mask ts q s) m) most_symbols

abbrev pub back_to : List ℕ → ℕ → ℕ
back_to ts m = bit_or m (mask_of (leads ts m) most_states)

abbrev pub within : List ℕ → ℕ → ℕ → ℕ
within ts m i = turns (back_to ts) m i

abbrev pub live_of : Rule → ℕ
live_of r = within r.targets r.finals most_states
