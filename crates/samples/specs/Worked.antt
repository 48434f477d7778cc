-- Samples worked by hand: one list, and one claim over it. proofs/Examples.antt proves the claim.
--
--   rule_A          rule A of document 01, the texts that end in 0 1 (crates/rulecheck)
--   rule_B          rule B of document 01: the texts of an odd number of 0s
--   all_texts       rule A with state 0 final too: every text
--   no_end          rule A without a final state: no text
--   not0            the texts that 0 does not begin, over two symbols: 0 leads to the empty set
--   case r wish a   the sample of the rule r for the wish is a
--   samples         the list
--   Answered cases  each has the answer beside it
use Rattle.std.specs.Prelude.{◌≡◌, List, [], ◌∷◌, set}
use Rattle.automaton.specs.declared.Rule.{Rule}
use Rattle.automaton.specs.Rules.{cell_of}
use Rattle.rulecheck.specs.Worked.{rule, no_targets, targets_A, rule_A}
use Rattle.samples.specs.declared.Wish.{Wish}
use Rattle.samples.specs.declared.Wish.TheVariants.{Accepted, Rejected}
use Rattle.samples.specs.Samples.{Sample, text, nothing, refused}
use Rattle.samples.specs.Search.{sample_of}

abbrev pub rule_B : Rule
rule_B = rule 3 1 1 6 (set (set (set no_targets (cell_of 0 0) 6) (cell_of 1 0) 1) (cell_of 2 0) 1)

abbrev pub all_texts : Rule
all_texts = rule 3 2 1 5 targets_A

abbrev pub no_end : Rule
no_end = rule 3 2 1 0 targets_A

-- from 0 by 1 to {1}, from 1 by both to {1}, and both states are final
abbrev pub not0 : Rule
not0 = rule 2 2 1 3 (set (set (set no_targets (cell_of 0 1) 2) (cell_of 1 0) 2) (cell_of 1 1) 2)

pub data Case : Type 0 where
  case : Rule → Wish → Sample → Case

abbrev pub samples : List Case
samples =
    -- the shortest text that ends in 0 1; the empty text does not
    case rule_A Accepted (text (0 ∷ 1 ∷ [])) ∷
    case rule_A Rejected (text []) ∷
    case rule_B Accepted (text (0 ∷ [])) ∷
    case rule_B Rejected (text []) ∷
    -- every text is accepted; none is
    case all_texts Accepted (text []) ∷
    case all_texts Rejected nothing ∷
    case no_end Accepted nothing ∷
    -- the empty set is searched too
    case not0 Rejected (text (0 ∷ [])) ∷
    -- the rule's own number comes first
    case (rule 33 1 0 0 no_targets) Accepted (refused 3) ∷ []

abbrev pub Answered : List Case → Type 0
Answered [] = Unit {0}
Answered (case r wish a ∷ cases) = (sample_of r wish ≡ a) × Answered cases
