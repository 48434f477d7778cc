-- Chunks worked by hand: one list, and one claim over it; proofs/Examples.antt proves it. Rule A is
-- rulecheck's.
--
--   once             the rule that accepts the text 0 1 and no other
--   trap             that of samples/trap.rule
--   case r m w o     following the chunk w by the rule r from the set m answers o
--   cases            the list
--   Answered cases   each is answered so
use Rattle.std.specs.Prelude.{◌≡◌, ℕ, true, false, List, [], ◌∷◌, set}
use Rattle.std.proofs.Math.Option.{none, some}
use Rattle.automaton.specs.declared.Rule.{Rule}
use Rattle.automaton.specs.Rules.{cell_of}
use Rattle.rulecheck.specs.Worked.{rule, no_targets, rule_A}
use Rattle.follow.specs.Following.{Outcome, refused_follow, follow_of}

-- from 0 by 0 to 1, from 1 by 1 to 2
abbrev pub once : Rule
once = rule 3 2 1 4 (set (set no_targets (cell_of 0 0) 2) (cell_of 1 1) 4)

-- it accepts 0, 0 1 0 and so on; what comes out of turn leads to state 2 and stays there
abbrev pub trap : Rule
trap =
    rule 3 2 1 2
    (set (set (set (set (set (set no_targets (cell_of 0 0) 2) (cell_of 0 1) 4) (cell_of 1 0) 4) (cell_of 1 1) 1) (cell_of 2 0) 4) (cell_of 2 1) 4)

pub data Case : Type 0 where
  case : Rule → ℕ → List ℕ → Outcome → Case

abbrev pub cases : List Case
cases =
    -- the text is accepted, and either symbol could come next
    case rule_A 1 (0 ∷ 1 ∷ []) (record { refusal = none; set = 5; ends = true; lost = none; expected = 3; complete = true }) ∷
    -- lost by the second 0, the fourth byte: only a 1 could have stood there
    case once 1 (255 ∷ 0 ∷ 255 ∷ 0 ∷ 1 ∷ []) (record { refusal = none; set = 0; ends = false; lost = some 4; expected = 2; complete = false }) ∷
    -- lost though a state is left: no final one can be reached from it; the text before is accepted
    case trap 1 (0 ∷ 0 ∷ []) (record { refusal = none; set = 4; ends = false; lost = some 2; expected = 2; complete = true }) ∷
    -- lost behind the accepted text: nothing but the end could have stood there
    case once 1 (0 ∷ 1 ∷ 1 ∷ []) (record { refusal = none; set = 0; ends = false; lost = some 3; expected = 0; complete = true }) ∷
    -- nothing came yet, only a 0 can come; nothing came and nothing can
    case once 1 [] (record { refusal = none; set = 1; ends = false; lost = none; expected = 1; complete = false }) ∷
    case once 0 [] (record { refusal = none; set = 0; ends = false; lost = some 0; expected = 0; complete = false }) ∷
    -- a byte that is no symbol and no idle mark
    case once 1 (2 ∷ []) (refused_follow 13) ∷ []

abbrev pub Answered : List Case → Type 0
Answered [] = Unit {0}
Answered (case r m w o ∷ cases) = (follow_of r m w ≡ o) × Answered cases
