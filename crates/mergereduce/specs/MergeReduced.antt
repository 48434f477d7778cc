-- Two rules made one after both are reduced, of the pairs alone that are reached and live, and
-- reduced again. Whatever numbers stand in them.
--
--   reduced_or_own r            the rule r reduced, or r itself where that is refused
--   pair_targets way one two    the targets of the pairs, or of the states of both (R-10)
--   kept_pairs way one two      those that are reached and live
--   trimmed_pairs way one two   the rule of these
--   merge_reduced_conditions ..  the first rule's conditions of R-3, then the second's, then 36, and
--                               37 for more than 32 such pairs
--   merge_reduced_number ..     the number of the first that holds, none where the two are merged
--   merge_reduced_of ..         what it answers (R-10's Merging: the number and a rule, zeros where
--                               it is refused)
use Rattle.std.specs.Prelude.{not, List, [], ◌∷◌, ◌++◌, ℕ, eqb, ltb}
use Rattle.std.proofs.Math.Option.{Option, none, some}
use Rattle.base.specs.Conditions.{Condition, on, first_of}
use Rattle.limits.specs.Limits.{most_states}
use Rattle.automaton.specs.declared.Rule.{Rule}
use Rattle.rulecheck.specs.Checking.{rule_conditions}
use Rattle.calls.specs.Calls.{install_number}
use Rattle.masks.specs.Turns.{rank}
use Rattle.merging.specs.declared.Way.{Way}
use Rattle.merging.specs.Merged.{states_of, set_of, targets_of}
use Rattle.merging.specs.Merging.{Merging, merging_by}
use Rattle.reducing.specs.Reduced.{reduced_of}
use Rattle.mergereduce.specs.Trimmed.{kept_from, trimmed_by}

abbrev pub reduced_by : Option ℕ → Rule → Rule → Rule
reduced_by none r own = r
reduced_by (some number) r own = own

unfoldable pub reduced_or_own : Rule → Rule
reduced_or_own r = reduced_by (install_number r) (reduced_of r) r

module _ (way : Way) (one two : Rule) where
  abbrev pub size : ℕ
  size = states_of way one.n two.n

  abbrev pub pair_targets : ℕ → ℕ → ℕ
  pair_targets q s = targets_of way one.n two.n one.targets two.targets q s

  abbrev pub initial_pairs : ℕ
  initial_pairs = set_of way one.n two.n one.initials two.initials

  abbrev pub final_pairs : ℕ
  final_pairs = set_of way one.n two.n one.finals two.finals

  abbrev pub kept_pairs : ℕ
  kept_pairs = kept_from size pair_targets initial_pairs final_pairs

  abbrev pub trimmed_pairs : Rule
  trimmed_pairs = trimmed_by size one.k initial_pairs final_pairs pair_targets kept_pairs

  abbrev pub pair_count : ℕ
  pair_count = rank kept_pairs size

module _ (way : Way) (one two : Rule) where
  abbrev pub last_conditions : List Condition
  last_conditions =
      on 36 (not (eqb one.k two.k)) ∷
      on 37 (ltb most_states (pair_count way (reduced_or_own one) (reduced_or_own two))) ∷ []

  abbrev pub merge_reduced_conditions : List Condition
  merge_reduced_conditions = rule_conditions one ++ (rule_conditions two ++ last_conditions)

  unfoldable pub merge_reduced_number : Option ℕ
  merge_reduced_number = first_of merge_reduced_conditions

  abbrev pub merge_reduced_rule : Rule
  merge_reduced_rule = reduced_or_own (trimmed_pairs way (reduced_or_own one) (reduced_or_own two))

  abbrev pub merge_reduced_of : Merging
  merge_reduced_of = merging_by merge_reduced_number merge_reduced_rule
