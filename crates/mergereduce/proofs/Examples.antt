-- The rules of specs/Worked.antt come to what stands there, by computation, step by step. Assumes
-- nothing.
use mathlib.Core.Path.{◌≡◌, refl, ap, ap₂, ◌∙◌}
use mathlib.Core.List.{[], ◌∷◌}
use mathlib.Core.Option.{Option, none, some}
use mathlib.Core.Bool.{true, false}
use Prim.Native.Nat.{ℕ}
use lib.Dec.{eqb, ltb}
use Rattle.base.specs.Conditions.{any_below}
use Rattle.base.specs.Lists.{list_from}
use Rattle.base.specs.Totals.{total}
use Rattle.masks.specs.Masks.{union, mask_of}
use Rattle.masks.specs.Turns.{rank, turns}
use Rattle.automaton.specs.declared.Rule.{Rule}
use Rattle.rulecheck.specs.Checking.{bad_targets, rule_number}
use Rattle.rulecheck.specs.Worked.{rule}
use Rattle.numbering.specs.Numbering.{index_of, numbered, expand_from, close_from, keys_up_to}
use Rattle.subsets.specs.Sets.{sets_of, too_many, next_set}
use Rattle.subsets.specs.mirror.Singles.{singleton_number}
use Rattle.delegates.specs.Alike.{delegate_in, start_count}
use Rattle.delegates.specs.mirror.Classes.{final, follow, every, first_from, alike_to, live_of, lowest_of, delegate_of, starts_of}
use Rattle.delegates.specs.Claims.{starts_in}
use Rattle.calls.specs.Calls.{install_number}
use Rattle.merging.specs.declared.Way.{Way}
use Rattle.merging.specs.declared.Way.TheVariants.{Both, Either, Interleaving}
use Rattle.merging.specs.Merging.{merging_by, merge_number, merge_of}
use Rattle.merging.specs.Worked.{merged, refused, no_arcs}
use Rattle.reducing.specs.Reduced.{gather}
use Rattle.reducing.specs.Reducing.{Reducing, reduce_of}
use Rattle.reducing.specs.Worked.{arcs, once, twice, odd, reduced_to}
use Rattle.reducing.proofs.Examples.{by_hand}
use Rattle.mergereduce.specs.Trimmed.{kept_from, nth, trimmed_by}
use Rattle.mergereduce.specs.MergeReduced.{reduced_or_own, size, pair_targets, initial_pairs, final_pairs, kept_pairs, trimmed_pairs, pair_count, merge_reduced_number, merge_reduced_rule, merge_reduced_of}
use Rattle.mergereduce.specs.Worked.{through_two, once_in, six_times, four_or_more, once_or_twice, crossed, thrice_crossed, round, merged_reduced, Answered}
use Rattle.mergereduce.proofs.Law.{instead_law, number_law}

-- a rule that is reduced to m is replaced by m
stands : (r m : Rule) → reduce_of r ≡ reduced_to m → reduced_or_own r ≡ m
stands r m e =
    (instead_law r).reduced (ap (λ (x : Reducing). x.number) e) ∙ ap (λ (x : Reducing). x.rule) e

-- two rules that pass their checks, with the same symbols, come to m, where each step comes to what
-- is given: the two rules reduced, the pairs that are kept, which are at most 32, and the rule of
-- these
module _ (way : Way) (one two a b : Rule) (kept : ℕ) (pairs m : Rule) where
  step_by_step : reduced_or_own one ≡ a
      → reduced_or_own two ≡ b
      → rule_number one ≡ none
      → rule_number two ≡ none
      → eqb one.k two.k ≡ true
      → kept_pairs way a b ≡ kept
      → ltb 32 (rank kept (size way a b)) ≡ false
      → trimmed_by (size way a b) a.k (initial_pairs way a b) (final_pairs way a b) (pair_targets way a b) kept ≡ pairs
      → reduced_or_own pairs ≡ m
      → merge_reduced_of way one two ≡ merged m
  step_by_step first second checked1 checked2 same kept-is few made last =
      let count : pair_count way (reduced_or_own one) (reduced_or_own two) ≡ rank kept (size way a b) =
      ap₂ (pair_count way) first second ∙ ap (λ (x : ℕ). rank x (size way a b)) kept-is in
      let number : merge_reduced_number way one two ≡ none =
      number_law way one two ∙ rw (checked1, checked2, same, count, few) in
      ap (λ (o : Option ℕ). merging_by o (merge_reduced_rule way one two)) number
      ∙ ap merged
      (ap₂ (λ (x y : Rule). reduced_or_own (trimmed_pairs way x y)) first second
      ∙ ap (λ (x : ℕ). reduced_or_own (trimmed_by (size way a b) a.k (initial_pairs way a b) (final_pairs way a b) (pair_targets way a b) x)) kept-is
      ∙ ap reduced_or_own made
      ∙ last)

-- and are refused with 37 where more than 32 are kept
module _ (way : Way) (one two a b : Rule) (kept : ℕ) where
  too_many_lem : reduced_or_own one ≡ a
      → reduced_or_own two ≡ b
      → rule_number one ≡ none
      → rule_number two ≡ none
      → eqb one.k two.k ≡ true
      → kept_pairs way a b ≡ kept
      → ltb 32 (rank kept (size way a b)) ≡ true
      → merge_reduced_of way one two ≡ refused 37
  too_many_lem first second checked1 checked2 same kept-is many =
      let count : pair_count way (reduced_or_own one) (reduced_or_own two) ≡ rank kept (size way a b) =
      ap₂ (pair_count way) first second ∙ ap (λ (x : ℕ). rank x (size way a b)) kept-is in
      let number : merge_reduced_number way one two ≡ some 37 =
      number_law way one two ∙ rw (checked1, checked2, same, count, many) in
      ap (λ (o : Option ℕ). merging_by o (merge_reduced_rule way one two)) number

-- ---- the rules reduced
once_stays : reduced_or_own once ≡ once
unfolding install_number bad_targets any_below union index_of numbered expand_from close_from keys_up_to sets_of too_many next_set singleton_number delegate_in start_count final follow every first_from alike_to live_of lowest_of delegate_of starts_of starts_in list_from total gather turns
once_stays = stands once once (by_hand once once (0 ∷ 1 ∷ []) 3 (0 ∷ 1 ∷ []) 3 refl refl refl refl refl refl refl)

twice_stays : reduced_or_own twice ≡ twice
unfolding install_number bad_targets any_below union index_of numbered expand_from close_from keys_up_to sets_of too_many next_set singleton_number delegate_in start_count final follow every first_from alike_to live_of lowest_of delegate_of starts_of starts_in list_from total gather turns
twice_stays = stands twice twice (by_hand twice twice (0 ∷ 1 ∷ 2 ∷ []) 7 (0 ∷ 1 ∷ 2 ∷ []) 7 refl refl refl refl refl refl refl)

odd_stays : reduced_or_own odd ≡ odd
unfolding install_number bad_targets any_below union index_of numbered expand_from close_from keys_up_to sets_of too_many next_set singleton_number delegate_in start_count final follow every first_from alike_to live_of lowest_of delegate_of starts_of starts_in list_from total gather turns
odd_stays = stands odd odd (by_hand odd odd (0 ∷ 1 ∷ []) 3 (0 ∷ 1 ∷ []) 3 refl refl refl refl refl refl refl)

through_stays : reduced_or_own through_two ≡ through_two
unfolding install_number bad_targets any_below union index_of numbered expand_from close_from keys_up_to sets_of too_many next_set singleton_number delegate_in start_count final follow every first_from alike_to live_of lowest_of delegate_of starts_of starts_in list_from total gather turns
through_stays = stands through_two through_two (by_hand through_two through_two (0 ∷ 1 ∷ 2 ∷ []) 7 (0 ∷ 1 ∷ 2 ∷ []) 7 refl refl refl refl refl refl refl)

nine_once : reduced_or_own (once_in 9) ≡ once
unfolding install_number bad_targets any_below union index_of numbered expand_from close_from keys_up_to sets_of too_many next_set singleton_number delegate_in start_count final follow every first_from alike_to live_of lowest_of delegate_of starts_of starts_in list_from total gather turns
nine_once = stands (once_in 9) once (by_hand (once_in 9) once (0 ∷ 1 ∷ 32 ∷ 32 ∷ 32 ∷ 32 ∷ 32 ∷ 32 ∷ 32 ∷ []) 3 (0 ∷ 1 ∷ []) 3 refl refl refl refl refl refl refl)

five_once : reduced_or_own (once_in 5) ≡ once
unfolding install_number bad_targets any_below union index_of numbered expand_from close_from keys_up_to sets_of too_many next_set singleton_number delegate_in start_count final follow every first_from alike_to live_of lowest_of delegate_of starts_of starts_in list_from total gather turns
five_once = stands (once_in 5) once (by_hand (once_in 5) once (0 ∷ 1 ∷ 32 ∷ 32 ∷ 32 ∷ []) 3 (0 ∷ 1 ∷ []) 3 refl refl refl refl refl refl refl)

six_stays : reduced_or_own six_times ≡ six_times
unfolding install_number bad_targets any_below union index_of numbered expand_from close_from keys_up_to sets_of too_many next_set singleton_number delegate_in start_count final follow every first_from alike_to live_of lowest_of delegate_of starts_of starts_in list_from total gather turns
six_stays = stands six_times six_times (by_hand six_times six_times (0 ∷ 1 ∷ 2 ∷ 3 ∷ 4 ∷ 5 ∷ 6 ∷ []) 127 (0 ∷ 1 ∷ 2 ∷ 3 ∷ 4 ∷ 5 ∷ 6 ∷ []) 127 refl refl refl refl refl refl refl)

four_stays : reduced_or_own four_or_more ≡ four_or_more
unfolding install_number bad_targets any_below union index_of numbered expand_from close_from keys_up_to sets_of too_many next_set singleton_number delegate_in start_count final follow every first_from alike_to live_of lowest_of delegate_of starts_of starts_in list_from total gather turns
four_stays = stands four_or_more four_or_more (by_hand four_or_more four_or_more (0 ∷ 1 ∷ 2 ∷ 3 ∷ 4 ∷ []) 31 (0 ∷ 1 ∷ 2 ∷ 3 ∷ 4 ∷ []) 31 refl refl refl refl refl refl refl)

crossed_stays : reduced_or_own crossed ≡ crossed
unfolding install_number bad_targets any_below union index_of numbered expand_from close_from keys_up_to sets_of too_many next_set singleton_number delegate_in start_count final follow every first_from alike_to live_of lowest_of delegate_of starts_of starts_in list_from total gather turns
crossed_stays = stands crossed crossed (by_hand crossed crossed (0 ∷ 1 ∷ 2 ∷ []) 7 (0 ∷ 1 ∷ 2 ∷ []) 7 refl refl refl refl refl refl refl)

five_stays : reduced_or_own (round 5 1) ≡ round 5 1
unfolding install_number bad_targets any_below union index_of numbered expand_from close_from keys_up_to sets_of too_many next_set singleton_number delegate_in start_count final follow every first_from alike_to live_of lowest_of delegate_of starts_of starts_in list_from total gather turns
five_stays = stands (round 5 1) (round 5 1) (by_hand (round 5 1) (round 5 1) (0 ∷ 1 ∷ 2 ∷ 3 ∷ 4 ∷ []) 31 (0 ∷ 1 ∷ 2 ∷ 3 ∷ 4 ∷ []) 31 refl refl refl refl refl refl refl)

seven_stays : reduced_or_own (round 7 1) ≡ round 7 1
unfolding install_number bad_targets any_below union index_of numbered expand_from close_from keys_up_to sets_of too_many next_set singleton_number delegate_in start_count final follow every first_from alike_to live_of lowest_of delegate_of starts_of starts_in list_from total gather turns
seven_stays = stands (round 7 1) (round 7 1) (by_hand (round 7 1) (round 7 1) (0 ∷ 1 ∷ 2 ∷ 3 ∷ 4 ∷ 5 ∷ 6 ∷ []) 127 (0 ∷ 1 ∷ 2 ∷ 3 ∷ 4 ∷ 5 ∷ 6 ∷ []) 127 refl refl refl refl refl refl refl)

-- ---- the rules of pairs, reduced
abbrev besides : Rule
besides = rule 5 1 5 18 (arcs (2 ∷ 0 ∷ 8 ∷ 16 ∷ []))

abbrev square : Rule
square = rule 4 1 1 8 (arcs (6 ∷ 8 ∷ 8 ∷ []))

abbrev six : Rule
six = rule 6 1 1 16 (arcs (12 ∷ 16 ∷ 34 ∷ 32 ∷ 0 ∷ 16 ∷ []))

by_length : reduced_or_own six ≡ thrice_crossed
unfolding install_number bad_targets any_below union index_of numbered expand_from close_from keys_up_to sets_of too_many next_set singleton_number delegate_in start_count final follow every first_from alike_to live_of lowest_of delegate_of starts_of starts_in list_from total gather turns
by_length = stands six thrice_crossed (by_hand six thrice_crossed (0 ∷ 1 ∷ 2 ∷ 2 ∷ 4 ∷ 1 ∷ []) 63 (0 ∷ 1 ∷ 2 ∷ 2 ∷ 4 ∷ 1 ∷ []) 23 refl refl refl refl refl refl refl)

two_alike : reduced_or_own besides ≡ once_or_twice
unfolding install_number bad_targets any_below union index_of numbered expand_from close_from keys_up_to sets_of too_many next_set singleton_number delegate_in start_count final follow every first_from alike_to live_of lowest_of delegate_of starts_of starts_in list_from total gather turns
two_alike = stands besides once_or_twice (by_hand besides once_or_twice (0 ∷ 1 ∷ 2 ∷ 0 ∷ 1 ∷ []) 31 (0 ∷ 1 ∷ 2 ∷ 0 ∷ 1 ∷ []) 7 refl refl refl refl refl refl refl)

ways_alike : reduced_or_own square ≡ twice
unfolding install_number bad_targets any_below union index_of numbered expand_from close_from keys_up_to sets_of too_many next_set singleton_number delegate_in start_count final follow every first_from alike_to live_of lowest_of delegate_of starts_of starts_in list_from total gather turns
ways_alike = stands square twice (by_hand square twice (0 ∷ 1 ∷ 1 ∷ 3 ∷ []) 15 (0 ∷ 1 ∷ 1 ∷ 3 ∷ []) 11 refl refl refl refl refl refl refl)

none_stays : reduced_or_own (no_arcs 1 1) ≡ no_arcs 1 1
unfolding install_number bad_targets any_below union index_of numbered expand_from close_from keys_up_to sets_of too_many next_set singleton_number delegate_in start_count final follow every first_from alike_to live_of lowest_of delegate_of starts_of starts_in list_from total gather turns
none_stays = stands (no_arcs 1 1) (no_arcs 1 1) (by_hand (no_arcs 1 1) (no_arcs 1 1) (32 ∷ []) 0 [] 0 refl refl refl refl refl refl refl)

diagonal : kept_pairs Both four_or_more six_times ≡ 30081614081
unfolding any_below union mask_of kept_from turns
diagonal = refl

all_pairs : kept_pairs Both (round 5 1) (round 7 1) ≡ 34359738367
unfolding any_below union mask_of kept_from turns
all_pairs = refl

pub answered : Answered merged_reduced
unfolding merge_reduced_number bad_targets any_below union mask_of kept_from turns nth first_from list_from total
answered = (
  step_by_step Both once through_two once through_two 17 once once once_stays through_stays refl refl refl refl refl refl once_stays,
  (
    step_by_step Either once twice once twice 31 besides once_or_twice once_stays twice_stays refl refl refl refl refl refl two_alike,
    (
      step_by_step Interleaving once once once once 15 square twice once_stays once_stays refl refl refl refl refl refl ways_alike,
      (
        step_by_step Both twice odd twice odd 0 (no_arcs 1 1) (no_arcs 1 1) twice_stays odd_stays refl refl refl refl refl refl none_stays,
        (
          step_by_step Both (once_in 9) (once_in 5) once once 9 once once nine_once five_once refl refl refl refl refl refl once_stays,
          (
            step_by_step Both four_or_more six_times four_or_more six_times 30081614081 six_times six_times four_stays six_stays refl refl refl diagonal refl refl six_stays,
            (
              step_by_step Both crossed twice crossed twice 161 crossed crossed crossed_stays twice_stays refl refl refl refl refl refl crossed_stays,
              (
                step_by_step Interleaving once crossed once crossed 63 six thrice_crossed once_stays crossed_stays refl refl refl refl refl refl by_length,
                (
                  too_many_lem Both (round 5 1) (round 7 1) (round 5 1) (round 7 1) 34359738367 five_stays seven_stays refl refl refl all_pairs refl,
                  (refl, (refl, (refl, (refl, tt)))),
                ),
              ),
            ),
          ),
        ),
      ),
    ),
  ),
)

pub beyond : (merge_of Both (once_in 9) (once_in 5) ≡ refused 37) × (merge_of Both four_or_more six_times ≡ refused 37)
unfolding merge_number bad_targets any_below
beyond = (refl, refl)
