-- Lists of a tray's calls worked by hand: one list, and one claim over it. Most rules are rule A of
-- document 01, which accepts the texts that end in 0 1, and `even_rule`, which accepts those of even
-- length; both have the symbols 0 and 1. proofs/Examples.antt proves the claim.
--
--   any_rule           a rule of three symbols that accepts every text
--   no_states          a rule without states, which is refused with 3
--   ruled row column   both rules are installed; like all lists of calls, the last call first
--   case row column calls more   the calls after `ruled row column`, and the replies to them
--   lists              the list
--   Answered cases     each is answered as it says, and the rules with their sets and M
use Rattle.std.specs.Prelude.{◌≡◌, List, [], ◌∷◌, ◌++◌, set, replicate}
use Rattle.automaton.specs.declared.Rule.{Rule}
use Rattle.automaton.specs.Rules.{cell_of}
use Rattle.rulecheck.specs.Worked.{rule, no_targets, rule_A}
use Rattle.trays.specs.Replies.{Reply, accepted, judged, refused, waiting, says_yes, says_no, refused_with, with_sets}
use Rattle.trays.specs.Calls.{Call, installs_row, installs_column, opens, delivers, withdraws, asks_verdict}
use Rattle.trays.specs.Worked.{even_rule}
use Rattle.trayhistories.specs.Claims.{replies_to}

-- each symbol leads from the one state to itself
abbrev pub any_rule : Rule
any_rule = rule 1 3 1 1 (set (set (set no_targets (cell_of 0 0) 1) (cell_of 0 1) 1) (cell_of 0 2) 1)

abbrev pub no_states : Rule
no_states = rule 0 2 0 0 no_targets

abbrev pub ruled : Rule → Rule → List Call
ruled row column = installs_column column ∷ installs_row row ∷ []

pub data Case : Type 0 where
  case : Rule → Rule → List Call → List Reply → Case

abbrev pub lists : List Case
lists =
    -- two bands of a row 0 1, the second first: each column has two events
    case rule_A even_rule (asks_verdict ∷ delivers 0 (0 ∷ 1 ∷ []) ∷ delivers 1 (0 ∷ 1 ∷ []) ∷ opens 2 2 ∷ [])
    (judged says_yes ∷ accepted ∷ accepted ∷ accepted ∷ []) ∷
    -- bands by their numbers: a row 0 0 above a row 1 1 makes both columns 0 1; exchanged they are 1 0
    case even_rule rule_A (asks_verdict ∷ delivers 1 (1 ∷ 1 ∷ []) ∷ delivers 0 (0 ∷ 0 ∷ []) ∷ opens 2 2 ∷ [])
    (judged says_yes ∷ accepted ∷ accepted ∷ accepted ∷ []) ∷
    case even_rule rule_A (asks_verdict ∷ delivers 1 (0 ∷ 0 ∷ []) ∷ delivers 0 (1 ∷ 1 ∷ []) ∷ opens 2 2 ∷ [])
    (judged says_no ∷ accepted ∷ accepted ∷ accepted ∷ []) ∷
    -- one row: each column has one event
    case rule_A even_rule (asks_verdict ∷ delivers 0 (0 ∷ 1 ∷ []) ∷ opens 2 1 ∷ [])
    (judged says_no ∷ accepted ∷ accepted ∷ []) ∷
    -- two of three bands are empty
    case rule_A even_rule (asks_verdict ∷ delivers 1 (0 ∷ 1 ∷ []) ∷ opens 2 3 ∷ [])
    (judged (waiting 2) ∷ accepted ∷ accepted ∷ []) ∷
    -- a band of no rows stands; each column is the empty text
    case rule_A even_rule (asks_verdict ∷ delivers 0 [] ∷ opens 2 1 ∷ []) (judged says_yes ∷ accepted ∷ accepted ∷ []) ∷
    -- a withdrawn band is empty, and can be filled anew
    case rule_A even_rule (asks_verdict ∷ delivers 0 (0 ∷ 1 ∷ []) ∷ withdraws 0 ∷ delivers 0 [] ∷ opens 2 1 ∷ [])
    (judged says_no ∷ accepted ∷ accepted ∷ accepted ∷ accepted ∷ []) ∷
    case rule_A even_rule (withdraws 0 ∷ asks_verdict ∷ withdraws 0 ∷ delivers 0 [] ∷ opens 2 1 ∷ [])
    (refused 23 ∷ judged (waiting 1) ∷ accepted ∷ accepted ∷ accepted ∷ []) ∷
    -- a filled band stays as it is
    case rule_A even_rule (asks_verdict ∷ delivers 0 [] ∷ delivers 0 (0 ∷ 1 ∷ []) ∷ opens 2 1 ∷ [])
    (judged says_no ∷ refused 22 ∷ accepted ∷ accepted ∷ []) ∷
    -- an installation of either rule removes the board
    case rule_A even_rule (asks_verdict ∷ installs_row rule_A ∷ opens 2 1 ∷ [])
    (judged (refused_with 21) ∷ with_sets rule_A ∷ accepted ∷ []) ∷
    case rule_A even_rule (asks_verdict ∷ installs_column even_rule ∷ opens 2 1 ∷ [])
    (judged (refused_with 21) ∷ with_sets even_rule ∷ accepted ∷ []) ∷
    -- a refused one keeps the rules, the board and its bands
    case rule_A even_rule (asks_verdict ∷ installs_column no_states ∷ installs_row no_states ∷ delivers 0 [] ∷ opens 2 1 ∷ [])
    (judged says_yes ∷ refused 3 ∷ refused 3 ∷ accepted ∷ accepted ∷ []) ∷
    -- the widths and bands at their ends
    case rule_A even_rule (opens 16 8 ∷ opens 16 9 ∷ opens 16 0 ∷ opens 17 1 ∷ opens 0 9 ∷ [])
    (accepted ∷ refused 10 ∷ refused 10 ∷ refused 38 ∷ refused 38 ∷ []) ∷
    -- bytes that are no whole row, a foreign one, the mark 255 of idle valves, a band that is not there
    case rule_A even_rule
    (delivers 0 (0 ∷ []) ∷ delivers 0 (0 ∷ 2 ∷ []) ∷ delivers 0 (0 ∷ 255 ∷ []) ∷ delivers 1 [] ∷ opens 2 1 ∷ [])
    (refused 39 ∷ refused 13 ∷ refused 13 ∷ refused 11 ∷ accepted ∷ []) ∷
    -- 2 is a symbol of one rule alone, and foreign to the column rule or to the row rule
    case any_rule even_rule (delivers 0 (1 ∷ 1 ∷ []) ∷ delivers 0 (0 ∷ 2 ∷ []) ∷ opens 2 1 ∷ [])
    (accepted ∷ refused 13 ∷ accepted ∷ []) ∷
    case even_rule any_rule (delivers 0 (1 ∷ 1 ∷ []) ∷ delivers 0 (0 ∷ 2 ∷ []) ∷ opens 2 1 ∷ [])
    (accepted ∷ refused 13 ∷ accepted ∷ []) ∷
    -- 2 is a symbol of both rules, 3 of neither
    case any_rule any_rule (asks_verdict ∷ delivers 0 (0 ∷ 2 ∷ []) ∷ delivers 0 (0 ∷ 3 ∷ []) ∷ opens 2 1 ∷ [])
    (judged says_yes ∷ accepted ∷ refused 13 ∷ accepted ∷ []) ∷
    -- 65 rows of one event are too many, 64 are not: the column has 64 events
    case any_rule even_rule (asks_verdict ∷ delivers 0 (replicate 64 0) ∷ delivers 0 (replicate 65 0) ∷ opens 1 1 ∷ [])
    (judged says_yes ∷ accepted ∷ refused 39 ∷ accepted ∷ []) ∷ []

abbrev pub Answered : List Case → Type 0
Answered [] = Unit {0}
Answered (case row column calls more ∷ cases) =
    (replies_to (calls ++ ruled row column) ≡ more ++ (with_sets column ∷ with_sets row ∷ [])) × Answered cases
