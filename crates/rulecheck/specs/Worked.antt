-- Rules worked by hand, at the edges of what passes: one list, and one claim over it. A refused
-- rule is as near to one that passes as can be. proofs/Examples.antt proves the claim.
--
--   rule n k i f ts   the rule with these fields
--   no_targets        a table without arcs
--   rule_A, targets_A  rule A of document 01, "Two rules by hand", and its table
--   case r number     the rule r and its number, none where it passes
--   rules             the list
--   Answered cases    each rule has the number beside it
use Rattle.std.specs.Prelude.{◌≡◌, List, [], ◌∷◌, ℕ, set, replicate}
use Rattle.std.proofs.Math.Option.{Option, none, some}
use Rattle.limits.specs.Limits.{target_cells}
use Rattle.automaton.specs.declared.Rule.{Rule}
use Rattle.automaton.specs.Rules.{cell_of}
use Rattle.rulecheck.specs.Checking.{rule_number}

abbrev pub rule : ℕ → ℕ → ℕ → ℕ → List ℕ → Rule
rule n k initials finals targets =
    record { n = n; k = k; initials = initials; finals = finals; targets = targets }

abbrev pub no_targets : List ℕ
no_targets = replicate target_cells 0

-- from 0 by 0 to {0, 1}, from 0 by 1 to {0}, from 1 by 1 to {2}
abbrev pub targets_A : List ℕ
targets_A = set (set (set no_targets (cell_of 0 0) 3) (cell_of 0 1) 1) (cell_of 1 1) 4

-- it accepts the texts that end in 0 1
abbrev pub rule_A : Rule
rule_A = rule 3 2 1 4 targets_A

pub data Case : Type 0 where
  case : Rule → Option ℕ → Case

abbrev pub rules : List Case
rules =
    case rule_A none ∷
    -- the fewest states and symbols; the most, with every state in every mask
    case (rule 1 1 0 0 no_targets) none ∷
    case (rule 32 16 0xFFFFFFFF 0xFFFFFFFF (replicate target_cells 0xFFFFFFFF)) none ∷
    -- 3: n = 0, 33, 40
    case (rule 0 16 0 0 no_targets) (some 3) ∷
    case (rule 33 16 0 0 no_targets) (some 3) ∷
    case (rule 40 16 0 0 no_targets) (some 3) ∷
    -- 4: k = 0, 17
    case (rule 32 0 0 0 no_targets) (some 4) ∷
    case (rule 32 17 0 0 no_targets) (some 4) ∷
    -- 6: rule A with a state 3, which it lacks, among the initial states, and among the final ones
    case (rule 3 2 9 4 targets_A) (some 6) ∷
    case (rule 3 2 1 12 targets_A) (some 6) ∷
    -- 8: rule A with a state 3 among the targets of state 2 by symbol 1
    case (rule 3 2 1 4 (set targets_A (cell_of 2 1) 8)) (some 8) ∷
    -- 8: rule A with a target of state 3, which it lacks, by symbol 0; of state 31 by symbol 15; of
    -- state 0 by symbol 2, which it lacks
    case (rule 3 2 1 4 (set targets_A (cell_of 3 0) 1)) (some 8) ∷
    case (rule 3 2 1 4 (set targets_A (cell_of 31 15) 1)) (some 8) ∷
    case (rule 3 2 1 4 (set targets_A (cell_of 0 2) 1)) (some 8) ∷
    -- the first of several: 3 before 4, 4 before 6, 6 before 8
    case (rule 0 0 1 1 (set no_targets (cell_of 0 0) 1)) (some 3) ∷
    case (rule 1 0 2 2 (set no_targets (cell_of 0 0) 2)) (some 4) ∷
    case (rule 1 1 2 0 (set no_targets (cell_of 0 0) 2)) (some 6) ∷ []

abbrev pub Answered : List Case → Type 0
Answered [] = Unit {0}
Answered (case r number ∷ cases) = (rule_number r ≡ number) × Answered cases
