-- The mappings of small rules, by computation. A mapping's masks stand in its number from the lowest
-- byte up: 0x040201 maps each of three states to itself. Assumes nothing.
use mathlib.Core.Path.{◌≡◌, refl}
use mathlib.Core.List.{List, [], ◌∷◌}
use Prim.Native.Nat.{ℕ}
use Rattle.base.specs.Lists.{list_from}
use Rattle.masks.specs.Masks.{union}
use Rattle.numbering.specs.Numbering.{index_of, numbered, expand_from, close_from, keys_up_to}
use Rattle.mappings.specs.Mappings.{compose, identity, mapping_of}
use Rattle.mappings.specs.Packing.{pack, mapping_keys}

-- the targets of rule A of document 01, and those of a rule of one state without arcs
abbrev rule_A : List ℕ
rule_A = 3 ∷ 1 ∷ 0 ∷ 0 ∷ 0 ∷ 0 ∷ 0 ∷ 0 ∷ 0 ∷ 0 ∷ 0 ∷ 0 ∷ 0 ∷ 0 ∷ 0 ∷ 0 ∷ 0 ∷ 4 ∷ []

-- the identity, then what 0 and 1 lead to, and then what these lead to: the text 0 1 is number 3
pub mappings_A : mapping_keys rule_A 3 2 ≡ 0x040201 ∷ 0x000003 ∷ 0x000401 ∷ 0x000005 ∷ 0x000001 ∷ []
unfolding union index_of numbered expand_from close_from keys_up_to pack list_from
mappings_A = refl

-- a rule whose runs all die has the mapping to empty sets alone, with a number like any other
pub mappings_dead : mapping_keys [] 1 1 ≡ 0x01 ∷ 0x00 ∷ []
unfolding union index_of numbered expand_from close_from keys_up_to pack list_from
mappings_dead = refl

-- the earlier chunk's is applied first: 0 and then 1 leads from state 0 to {0, 2}, 1 and then 0 to
-- {0, 1}
pub earlier_first : compose (mapping_of rule_A 3 (0 ∷ [])) (mapping_of rule_A 3 (1 ∷ [])) ≡ 5 ∷ 0 ∷ 0 ∷ 0 ∷ 0 ∷ 0 ∷ 0 ∷ 0 ∷ []
unfolding union list_from
earlier_first = refl

pub later_last : compose (mapping_of rule_A 3 (1 ∷ [])) (mapping_of rule_A 3 (0 ∷ [])) ≡ 3 ∷ 0 ∷ 0 ∷ 0 ∷ 0 ∷ 0 ∷ 0 ∷ 0 ∷ []
unfolding union list_from
later_last = refl

-- the identity of three states has no bit at 3 or above
pub identity_3 : identity 3 ≡ 1 ∷ 2 ∷ 4 ∷ 0 ∷ 0 ∷ 0 ∷ 0 ∷ 0 ∷ []
unfolding list_from
identity_3 = refl
