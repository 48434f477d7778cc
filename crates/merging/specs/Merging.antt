-- What merging two rules answers, whatever numbers stand in them.
--
--   way_of number                the way that C names by the number: 0 both, 1 either, any other
--                               interleaving
--   merge_conditions way ..     the first rule's conditions of R-3, then the second's, then 36 and
--                               37
--   merge_number way one two    the number of the first that holds, none where the two are merged
--   Merging                     what merging answers: the number with which the two are refused, or
--                               none; and a rule
--   merge_outcome               what each case of the code's result stands for
--   merge_of way one two        what merging the two answers
use Rattle.std.specs.Prelude.{Result, Ok, Err, not, cond, List, [], ◌∷◌, ◌++◌, ℕ, eqb, ltb}
use Rattle.std.proofs.Math.Option.{Option, none, some}
use Rattle.base.specs.declared.Refusal.{Refusal}
use Rattle.base.specs.Answers.{refusal_number}
use Rattle.base.specs.Conditions.{Condition, on, first_of}
use Rattle.limits.specs.Limits.{most_states}
use Rattle.automaton.specs.declared.Rule.{Rule}
use Rattle.rulecheck.specs.Checking.{rule_conditions}
use Rattle.ruleformat.specs.Reader.{no_rule}
use Rattle.merging.specs.declared.Way.{Way}
use Rattle.merging.specs.declared.Way.TheVariants.{Both, Either, Interleaving}
use Rattle.merging.specs.Merged.{states_of, merged_of}

abbrev pub way_of : ℕ → Way
way_of number = cond (eqb number 0) Both (cond (eqb number 1) Either Interleaving)

-- ---- the conditions
-- 36: two rules with different k; 37: more than 32 states in the result
abbrev pub pair_conditions : Way → Rule → Rule → List Condition
pair_conditions way one two =
    on 36 (not (eqb one.k two.k)) ∷
    on 37 (ltb most_states (states_of way one.n two.n)) ∷ []

abbrev pub merge_conditions : Way → Rule → Rule → List Condition
merge_conditions way one two =
    rule_conditions one ++ (rule_conditions two ++ pair_conditions way one two)

unfoldable pub merge_number : Way → Rule → Rule → Option ℕ
merge_number way one two = first_of (merge_conditions way one two)

-- ---- the answer
pub record Merging : Type 0 where
  pub number : Option ℕ
  pub rule : Rule

abbrev pub merge_outcome : Result Rule Refusal → Merging
merge_outcome (Ok rule) = record { number = none; rule = rule }
merge_outcome (Err refusal) = record { number = some (refusal_number refusal); rule = no_rule }

-- a refusal carries zeros
abbrev pub merging_by : Option ℕ → Rule → Merging
merging_by none r = record { number = none; rule = r }
merging_by (some number) r = record { number = some number; rule = no_rule }

abbrev pub merge_of : Way → Rule → Rule → Merging
merge_of way one two = merging_by (merge_number way one two) (merged_of way one two)
