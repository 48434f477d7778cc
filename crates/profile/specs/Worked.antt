-- Profiles worked by hand: one list, and one claim over it. proofs/Examples.antt proves the claim.
--
--   rule_A            rule A of document 01 (crates/rulecheck)
--   rule_B            rule B of document 01
--   of a b c          the mapping of three states to the sets a, b and c: eight masks
--   mappings_in p     the mappings of the profile p, in number order
--   case r reply fs   the rule r is built with the reply, and has the mappings fs
--   profiles          the list
--   Answered cases    each rule has the reply and the mappings beside it
use Rattle.std.specs.Prelude.{◌≡◌, List, [], ◌∷◌, map, ℕ, set}
use Rattle.base.specs.Lists.{list_from}
use Rattle.automaton.specs.declared.Rule.{Rule}
use Rattle.automaton.specs.Rules.{cell_of}
use Rattle.rulecheck.specs.Worked.{rule, no_targets, rule_A}
use Rattle.profile.specs.declared.Profile.{Profile}
use Rattle.profile.specs.Profiles.{Reply, accepted, refused, build_of}
use Rattle.profile.specs.Runs.{mapping_in}

abbrev pub rule_B : Rule
rule_B = rule 3 1 1 6 (set (set (set no_targets (cell_of 0 0) 6) (cell_of 1 0) 1) (cell_of 2 0) 1)

abbrev pub of : ℕ → ℕ → ℕ → List ℕ
of a b c = a ∷ b ∷ c ∷ 0 ∷ 0 ∷ 0 ∷ 0 ∷ 0 ∷ []

abbrev pub mappings_in : Profile → List (List ℕ)
mappings_in p = map (mapping_in p) (list_from 0 p.count (λ i. i))

pub data Case : Type 0 where
  case : Rule → Reply → List (List ℕ) → Case

abbrev pub profiles : List Case
profiles =
    -- rule A: the identity, then by 0, by 1, by 0 1 and by 1 1
    case rule_A (accepted 5) (of 1 2 4 ∷ of 3 0 0 ∷ of 1 4 0 ∷ of 5 0 0 ∷ of 1 0 0 ∷ []) ∷
    -- rule B: the identity, by an odd number of 0s, by an even one
    case rule_B (accepted 3) (of 1 2 4 ∷ of 6 1 1 ∷ of 1 6 6 ∷ []) ∷
    -- a rule without arcs: the identity, and from every state to the empty set
    case (rule 3 16 1 1 no_targets) (accepted 2) (of 1 2 4 ∷ of 0 0 0 ∷ []) ∷
    -- nine states; a number of the rule comes first
    case (rule 9 1 0 0 no_targets) (refused 33) [] ∷
    case (rule 33 1 0 0 no_targets) (refused 3) [] ∷ []

abbrev pub Answered : List Case → Type 0
Answered [] = Unit {0}
Answered (case r reply fs ∷ cases) = ((build_of r).reply ≡ reply) × (mappings_in (build_of r).profile ≡ fs) × Answered cases
