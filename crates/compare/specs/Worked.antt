-- Rules compared by hand: one list, and one claim over it. proofs/Examples.antt proves the claim.
--
--   rule_A         rule A of document 01, the texts that end in 0 1 (crates/rulecheck)
--   rule_D         the same texts, by a rule with one run for each text: the states are what the text
--                  ends in, something else, 0, and 0 1
--   all_texts      rule A with state 0 final too: every text
--   none_before    rule A without the arc from 0 by 1: the texts that have one 1, which ends them, and
--                  some 0 before it
--   ends_in00      rule A with its last arc by 0: the texts that end in 0 0
--   no_start, no_end rules without an initial state, and without a final one: no text
--   case one two a   the rules one and two, compared, have the answer a
--   pairs          the list
--   Answered cases each has the answer beside it
use Rattle.std.specs.Prelude.{◌≡◌, List, [], ◌∷◌, ℕ, set}
use Rattle.automaton.specs.declared.Rule.{Rule}
use Rattle.automaton.specs.Rules.{cell_of}
use Rattle.rulecheck.specs.Worked.{rule, no_targets, targets_A, rule_A}
use Rattle.compare.specs.declared.Which.TheVariants.{First, Second}
use Rattle.compare.specs.Compared.{Comparison, apart, same, refused}
use Rattle.compare.specs.Search.{compare_of}

-- the targets of states 0, 1 and 2, by 0 and by 1
abbrev table : ℕ → ℕ → ℕ → ℕ → ℕ → ℕ → List ℕ
table a b c d e f =
    set (set (set (set (set (set no_targets (cell_of 0 0) a) (cell_of 0 1) b) (cell_of 1 0) c) (cell_of 1 1) d) (cell_of 2 0) e) (cell_of 2 1) f

abbrev pub rule_D : Rule
rule_D = rule 3 2 1 4 (table 2 1 2 4 2 1)

abbrev pub all_texts : Rule
all_texts = rule 3 2 1 5 targets_A

abbrev pub none_before : Rule
none_before = rule 3 2 1 4 (table 3 0 0 4 0 0)

abbrev pub ends_in00 : Rule
ends_in00 = rule 3 2 1 4 (table 3 1 4 0 0 0)

abbrev pub no_start : Rule
no_start = rule 1 2 0 1 no_targets

abbrev pub no_end : Rule
no_end = rule 3 2 1 0 targets_A

pub data Case : Type 0 where
  case : Rule → Rule → Comparison → Case

abbrev pub pairs : List Case
pairs =
    -- equal rules, and equal texts by different rules
    case rule_A rule_A same ∷
    case rule_A rule_D same ∷
    -- the empty text tells them apart
    case rule_A all_texts (apart Second []) ∷
    -- a changed rule: of 0 1, 0 0 1, 1 0 1 .. both accept the first two
    case rule_A none_before (apart First (1 ∷ 0 ∷ 1 ∷ [])) ∷
    -- of two shortest texts, 0 0 and 0 1, the first by symbols, whichever rule accepts it
    case rule_A ends_in00 (apart Second (0 ∷ 0 ∷ [])) ∷
    case ends_in00 rule_A (apart First (0 ∷ 0 ∷ [])) ∷
    -- an empty set of initial states: the pairs are of the empty set and those of the other rule
    case no_start rule_A (apart Second (0 ∷ 1 ∷ [])) ∷
    case no_start no_end same ∷
    -- different k; a number of the second rule comes before that, and one of the first before both
    case rule_A (rule 1 1 1 1 no_targets) (refused 36) ∷
    case rule_A (rule 33 1 0 0 no_targets) (refused 3) ∷
    case (rule 32 17 0 0 no_targets) (rule 33 1 0 0 no_targets) (refused 4) ∷ []

abbrev pub Answered : List Case → Type 0
Answered [] = Unit {0}
Answered (case one two a ∷ cases) = (compare_of one two ≡ a) × Answered cases
