-- A rule's file (crates/ruleformat, specs/Writing.antt) by value, and the pieces of which the code
-- makes it.
--
--   padded room f       the bytes f and zeros after them, so many bytes in all
--   Writing             the number of a refusal, or none; how many bytes the file has; and its
--                       bytes with zeros after them
--   arc_to mask s t     the arc by symbol s to state t, nothing where t is not in the mask
--   arcs_by n mask s    the arcs by symbol s to the states below n
--   sections_of n k ts q the section of state q
--   states_part n k ts  what stands behind the header: the pairs, and then the sections
use Rattle.std.specs.Prelude.{cond, List, [], ◌∷◌, ◌++◌, ℕ, ◌-◌, length, replicate}
use Rattle.std.proofs.Math.Option.{Option}
use Rattle.base.specs.Lists.{joined}
use Rattle.masks.specs.Masks.{has}
use Rattle.automaton.specs.Rules.{target_mask}
use Rattle.ruleformat.specs.Writing.{pairs, section_of}

abbrev pub padded : ℕ → List ℕ → List ℕ
padded room f = f ++ replicate (room - length f) 0

pub record Writing : Type 0 where
  pub number : Option ℕ
  pub length : ℕ
  pub bytes : List ℕ

-- ---- pieces of a file
abbrev pub arc_to : ℕ → ℕ → ℕ → List ℕ
arc_to mask s t = cond (has mask t) (s ∷ t ∷ []) []

abbrev pub arcs_by : ℕ → ℕ → ℕ → List ℕ
arcs_by n mask s = joined (arc_to mask s) n

abbrev pub sections_of : ℕ → ℕ → List ℕ → ℕ → List ℕ
sections_of n k ts q = section_of n k (target_mask ts q)

abbrev pub states_part : ℕ → ℕ → List ℕ → List ℕ
states_part n k ts = pairs n (sections_of n k ts) ++ joined (sections_of n k ts) n
