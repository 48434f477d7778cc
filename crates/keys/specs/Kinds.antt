-- Three walks of numbering: over sets of states, over mappings, and over pairs of sets, one of each
-- of two rules. None of the three leaves a key out: the empty set and the mapping to empty sets
-- alone have a number like any other. The loop can leave out the key 0.
--
--   pair_key x y         the pair of the sets x and y as a key; first_set and second_set are its sets
--   step_by kind ts us m s  the key that the key m leads to by the symbol s, in a rule with the
--                        targets ts; the second set of a pair by the targets us
--   nothing              no key is left out
--   skips_by omit        the key 0 is left out where omit is true
--   free_by omit         what stands in a cell that is not in use: 512 there, else 0
--   walk_in kind omit ts us k  the walk of the loop, with k symbols
--   walk_by kind ts us k  the walk that leaves nothing out
--   step_of, walk_of       those where one table is both
use Rattle.std.specs.Prelude.{Bool, false, cond, ◌&&◌, List, ℕ, ◌+◌, ◌*◌, ◌/◌, ◌%◌, ◌^◌, eqb}
use Rattle.limits.specs.Limits.{most_states, empty_set}
use Rattle.automaton.specs.Successor.{successor}
use Rattle.numbering.specs.Numbering.{Walk}
use Rattle.mappings.specs.Packing.{mapping_walk}
use Rattle.keys.specs.declared.Kind.{Kind}
use Rattle.keys.specs.declared.Kind.TheVariants.{Sets, Mappings, Pairs}

abbrev pub pair_key : ℕ → ℕ → ℕ
pair_key x y = x + y * 2 ^ most_states

abbrev pub first_set : ℕ → ℕ
first_set m = m % 2 ^ most_states

abbrev pub second_set : ℕ → ℕ
second_set m = m / 2 ^ most_states

abbrev pub step_by : Kind → List ℕ → List ℕ → ℕ → ℕ → ℕ
step_by Sets ts us m s = successor ts m s
step_by Mappings ts us m s = (mapping_walk ts 0).step m s
step_by Pairs ts us m s = pair_key (successor ts (first_set m) s) (successor us (second_set m) s)

abbrev pub step_of : Kind → List ℕ → ℕ → ℕ → ℕ
step_of kind ts = step_by kind ts ts

abbrev pub nothing : ℕ → Bool
nothing m = false

abbrev pub skips_by : Bool → ℕ → Bool
skips_by omit m = omit && eqb m 0

abbrev pub free_by : Bool → ℕ
free_by omit = cond omit empty_set 0

abbrev pub walk_in : Kind → Bool → List ℕ → List ℕ → ℕ → Walk
walk_in kind omit ts us k = record { step = step_by kind ts us; skips = skips_by omit; k = k }

abbrev pub walk_by : Kind → List ℕ → List ℕ → ℕ → Walk
walk_by kind ts us k = record { step = step_by kind ts us; skips = nothing; k = k }

abbrev pub walk_of : Kind → List ℕ → ℕ → Walk
walk_of kind ts k = walk_by kind ts ts k
