-- Lists of a tray's calls worked by hand, with what is found after each: one list, and one claim
-- over it. Rule A accepts the texts that end in 0 1, `even_rule` those of even length, so every row
-- of two events. proofs/Examples.antt proves the claim.
--
--   zeros             a rule of two symbols that accepts the texts of zeros: a 1 loses
--   never             a rule of two symbols that accepts nothing
--   case row column calls f   after both rules are installed and then the calls, f is found
--   lists             the list
--   Answered cases    each is answered as it says
use Rattle.std.specs.Prelude.{◌≡◌, List, [], ◌∷◌, ◌++◌, set}
use Rattle.automaton.specs.declared.Rule.{Rule}
use Rattle.automaton.specs.Rules.{cell_of}
use Rattle.rulecheck.specs.Worked.{rule, no_targets, rule_A}
use Rattle.trays.specs.Calls.{Call, opens, delivers}
use Rattle.trays.specs.Worked.{even_rule}
use Rattle.trayhistories.specs.Claims.{tray_after}
use Rattle.trayhistories.specs.Worked.{ruled}
use Rattle.faults.specs.Faulting.{Finding, refused_as, row_at, column_at, short_at, open_with, fault_of}

abbrev pub zeros : Rule
zeros = rule 1 2 1 1 (set no_targets (cell_of 0 0) 1)

abbrev pub never : Rule
never = rule 1 2 1 0 no_targets

pub data Case : Type 0 where
  case : Rule → Rule → List Call → Finding → Case

abbrev pub lists : List Case
lists =
    -- no board
    case rule_A zeros [] (refused_as 21) ∷
    -- the second row, 1 0, is wrong, though the first already loses column 1
    case rule_A zeros (delivers 0 (0 ∷ 1 ∷ 1 ∷ 0 ∷ []) ∷ opens 2 1 ∷ []) (row_at 0 1) ∷
    -- a wrong row behind an empty band
    case rule_A even_rule (delivers 1 (1 ∷ 0 ∷ []) ∷ opens 2 2 ∷ []) (row_at 1 0) ∷
    -- of two wrong rows that of the lower band, whichever came first
    case rule_A even_rule (delivers 0 (0 ∷ 0 ∷ []) ∷ delivers 1 (1 ∷ 0 ∷ []) ∷ opens 2 2 ∷ []) (row_at 0 0) ∷
    -- column 1 is lost with the second row of the second band
    case even_rule zeros (delivers 1 (0 ∷ 0 ∷ 0 ∷ 1 ∷ []) ∷ delivers 0 (0 ∷ 0 ∷ []) ∷ opens 2 3 ∷ []) (column_at 1 1 1) ∷
    -- both columns are lost with the second row; so it is with column 1 lost with the first
    case even_rule zeros (delivers 0 (0 ∷ 0 ∷ 1 ∷ 1 ∷ []) ∷ opens 2 1 ∷ []) (column_at 0 0 1) ∷
    case even_rule zeros (delivers 0 (0 ∷ 1 ∷ 1 ∷ 0 ∷ []) ∷ opens 2 1 ∷ []) (column_at 0 0 1) ∷
    -- a band behind an empty one is no part of a column yet
    case even_rule zeros (delivers 1 (1 ∷ 1 ∷ []) ∷ opens 2 2 ∷ []) (open_with 0) ∷
    -- no column can be accepted, though nothing stands
    case even_rule never (opens 2 1 ∷ []) (column_at 0 0 0) ∷
    -- one row: each column has one event; columns 0 1 and 0 0
    case even_rule even_rule (delivers 0 (0 ∷ 0 ∷ []) ∷ opens 2 1 ∷ []) (short_at 0) ∷
    case even_rule rule_A (delivers 0 (0 ∷ 0 ∷ 1 ∷ 0 ∷ []) ∷ opens 2 1 ∷ []) (short_at 1) ∷
    -- as long as a band is empty a column may go on
    case even_rule even_rule (delivers 0 (0 ∷ 0 ∷ []) ∷ opens 2 2 ∷ []) (open_with 1) ∷
    -- all is there and accepted
    case rule_A even_rule (delivers 0 (0 ∷ 1 ∷ []) ∷ delivers 1 (0 ∷ 1 ∷ []) ∷ opens 2 2 ∷ []) (open_with 2) ∷ []

abbrev pub Answered : List Case → Type 0
Answered [] = Unit {0}
Answered (case row column calls f ∷ cases) = (fault_of (tray_after (calls ++ ruled row column)) ≡ f) × Answered cases
