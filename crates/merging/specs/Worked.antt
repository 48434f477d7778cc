-- Rules made one by hand, and refusals at the edges: one list, and one claim over it.
-- proofs/Examples.antt proves the claim.
--
--   table free masks    a table for symbols 0 and 1: the masks of state 0 by both, of state 1, ..;
--                       `free` states at least have none
--   rule_E              the texts with an even number of 0s: states 0 (initial, final) and 1; 0
--                       leads from each to the other, 1 to itself
--   rule_A              rule A of document 01, the texts that end in 0 1 (crates/rulecheck)
--   no_arcs n k         a rule without arcs
--   case way r s m      r and s, merged by the way, come to m
--   merges              the list
--   Answered cases      each comes to what stands beside it
use Rattle.std.specs.Prelude.{◌≡◌, List, [], ◌∷◌, ◌++◌, ℕ, ◌*◌, ◌-◌, replicate}
use Rattle.std.proofs.Math.Option.{none, some}
use Rattle.limits.specs.Limits.{most_states, most_symbols}
use Rattle.automaton.specs.declared.Rule.{Rule}
use Rattle.rulecheck.specs.Worked.{rule, no_targets, rule_A}
use Rattle.ruleformat.specs.Reader.{no_rule}
use Rattle.merging.specs.declared.Way.{Way}
use Rattle.merging.specs.declared.Way.TheVariants.{Both, Either, Interleaving}
use Rattle.merging.specs.Merging.{Merging, merge_of}

abbrev pub table : ℕ → List ℕ → List ℕ
table free [] = replicate (free * most_symbols) 0
table free (by-0 ∷ []) = replicate (free * most_symbols) 0
table free (by-0 ∷ by-1 ∷ masks) =
    by-0 ∷ by-1 ∷ (replicate (most_symbols - 2) 0 ++ table (free - 1) masks)

abbrev pub rule_E : Rule
rule_E = rule 2 2 1 1 (table most_states (2 ∷ 1 ∷ 1 ∷ 2 ∷ []))

abbrev pub no_arcs : ℕ → ℕ → Rule
no_arcs n k = rule n k 0 0 no_targets

abbrev pub merged : Rule → Merging
merged r = record { number = none; rule = r }

abbrev pub refused : ℕ → Merging
refused number = record { number = some number; rule = no_rule }

pub data Case : Type 0 where
  case : Way → Rule → Rule → Merging → Case

abbrev pub merges : List Case
merges =
    -- the pairs are (0, 0), (0, 1), (0, 2), (1, 0), (1, 1), (1, 2)
    case Both rule_E rule_A
    (merged (rule 6 2 1 4 (table most_states (24 ∷ 1 ∷ 0 ∷ 4 ∷ 0 ∷ 0 ∷ 3 ∷ 8 ∷ 0 ∷ 32 ∷ [])))) ∷
    case Interleaving rule_E rule_A
    (merged
    (rule 6 2 1 4
    (table most_states (11 ∷ 1 ∷ 16 ∷ 6 ∷ 32 ∷ 4 ∷ 25 ∷ 8 ∷ 2 ∷ 48 ∷ 4 ∷ 32 ∷ [])))) ∷
    -- the states are E's 0 and 1, and A's 0, 1 and 2 after them
    case Either rule_E rule_A
    (merged (rule 5 2 5 17 (table most_states (2 ∷ 1 ∷ 1 ∷ 2 ∷ 12 ∷ 4 ∷ 0 ∷ 16 ∷ [])))) ∷
    -- 32 states in the result
    case Both (no_arcs 4 1) (no_arcs 8 1) (merged (no_arcs 32 1)) ∷
    case Interleaving (no_arcs 32 16) (no_arcs 1 16) (merged (no_arcs 32 16)) ∷
    case Interleaving (no_arcs 16 1) (no_arcs 2 1) (merged (no_arcs 32 1)) ∷
    case Either (no_arcs 16 1) (no_arcs 16 1) (merged (no_arcs 32 1)) ∷
    -- 37: 33 states, and 256
    case Both (no_arcs 3 1) (no_arcs 11 1) (refused 37) ∷
    case Either (no_arcs 32 1) (no_arcs 1 1) (refused 37) ∷
    case Interleaving (no_arcs 16 1) (no_arcs 16 1) (refused 37) ∷
    -- 36, before 37
    case Both (no_arcs 2 1) (no_arcs 2 2) (refused 36) ∷
    case Either (no_arcs 32 2) (no_arcs 32 1) (refused 36) ∷
    -- the second rule's number, before 36; the first rule's, before the second's
    case Both rule_A (no_arcs 33 1) (refused 3) ∷
    case Both rule_A (no_arcs 32 17) (refused 4) ∷
    case Either rule_A (rule 3 1 1 8 no_targets) (refused 6) ∷
    case Interleaving (rule 32 2 1 1 (table most_states (0 ∷ 1 ∷ []))) (rule 2 1 1 1 (table most_states (0 ∷ 1 ∷ [])))
    (refused 8) ∷
    case Both (no_arcs 32 17) (no_arcs 33 1) (refused 4) ∷
    case Either (rule 3 1 1 8 no_targets) (no_arcs 0 0) (refused 6) ∷ []

abbrev pub Answered : List Case → Type 0
Answered [] = Unit {0}
Answered (case way r s m ∷ cases) = (merge_of way r s ≡ m) × Answered cases
