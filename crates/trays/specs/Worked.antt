-- Rows worked by hand: one list, and one claim over it. proofs/Examples.antt proves the claim.
--
--   even_rule                a rule of two symbols that accepts the texts of even length
--   case row column w rows   rows of w events, by the two rules; whether all are accepted
--   trays                    the list
--   Answered cases           each is answered as it says
use Rattle.std.specs.Prelude.{◌≡◌, Bool, true, false, List, [], ◌∷◌, ℕ, set}
use Rattle.automaton.specs.declared.Rule.{Rule}
use Rattle.automaton.specs.Rules.{cell_of}
use Rattle.rulecheck.specs.Worked.{rule, no_targets, rule_A}
use Rattle.trays.specs.Rows.{rows_in, rows_up_to, passes}

-- each symbol leads from 0 to 1 and back
abbrev pub even_rule : Rule
even_rule = rule 2 2 1 1 (set (set (set (set no_targets (cell_of 0 0) 2) (cell_of 0 1) 2) (cell_of 1 0) 1) (cell_of 1 1) 1)

pub data Case : Type 0 where
  case : Rule → Rule → ℕ → List (List ℕ) → Bool → Case

-- two bands of one row 0 1, which rule A accepts; so each column has two events
abbrev pub two_bands : List (List ℕ)
two_bands = rows_up_to (λ p. rows_in 2 (0 ∷ 1 ∷ [])) 2

abbrev pub trays : List Case
trays =
    case rule_A even_rule 2 two_bands true ∷
    -- a column of one event
    case rule_A even_rule 2 (rows_in 2 (0 ∷ 1 ∷ [])) false ∷
    -- a row that rule A does not accept, first and last
    case rule_A even_rule 2 (rows_in 2 (1 ∷ 0 ∷ 0 ∷ 1 ∷ [])) false ∷
    case rule_A even_rule 2 (rows_in 2 (0 ∷ 1 ∷ 1 ∷ 0 ∷ [])) false ∷
    -- the rules exchanged: columns 0 0 and 1 1
    case even_rule rule_A 2 two_bands false ∷
    -- columns 0 1 and 0 1
    case even_rule rule_A 2 (rows_in 2 (0 ∷ 0 ∷ 1 ∷ 1 ∷ [])) true ∷
    -- no rows: each column is the empty text
    case rule_A even_rule 2 [] true ∷
    case even_rule rule_A 2 [] false ∷ []

abbrev pub Answered : List Case → Type 0
Answered [] = Unit {0}
Answered (case row column w rows answer ∷ cases) = (passes row column w rows ≡ answer) × Answered cases
