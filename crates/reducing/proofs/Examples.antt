-- The rules of specs/Worked.antt come to what stands there, by computation, step by step. Assumes
-- nothing.
--
--   padded x l    32 numbers: l, then x
use mathlib.Core.Path.{◌≡◌, refl, ap, ◌∙◌}
use mathlib.Core.List.{List, [], ◌∷◌, ◌++◌}
use mathlib.Core.Option.{Option, none, some}
use Prim.Native.Nat.{ℕ, ◌-◌}
use lib.ListN.{length, replicate}
use Rattle.base.specs.Conditions.{any_below}
use Rattle.base.specs.Lists.{list_from}
use Rattle.base.specs.Options.{is_none}
use Rattle.base.specs.Totals.{total}
use Rattle.masks.specs.Masks.{union}
use Rattle.masks.specs.Turns.{turns}
use Rattle.automaton.specs.declared.Rule.{Rule}
use Rattle.rulecheck.specs.Checking.{bad_targets}
use Rattle.rulecheck.specs.Worked.{rule, no_targets}
use Rattle.numbering.specs.Numbering.{index_of, numbered, expand_from, close_from, keys_up_to}
use Rattle.subsets.specs.Sets.{sets_of, too_many, next_set}
use Rattle.subsets.specs.mirror.Singles.{singleton_number}
use Rattle.delegates.specs.Alike.{delegate_in, start_count}
use Rattle.delegates.specs.mirror.Classes.{final, follow, every, first_from, alike_to, live_of, lowest_of, delegate_of, starts_of}
use Rattle.delegates.specs.Claims.{starts_in}
use Rattle.calls.specs.Calls.{install_number}
use Rattle.reducing.specs.Reduced.{gather, kept_of, reached_of, chosen_of, reduced_by, list_in, kept_in, reduced_of}
use Rattle.reducing.specs.Reducing.{Reducing, reducing_by, refused_by, reduce_of}
use Rattle.reducing.specs.Worked.{once, twice, twice_or_thrice, odd, even, not_reached, dead, lower_not_reached, second, alike, behind_merged, no_text, few_sets, many_sets, too_large, reductions, Answered}

abbrev pub padded : ℕ → List ℕ → List ℕ
padded x l = l ++ replicate (32 - length l) x

-- the rule r comes to m, where each step comes to what is given: the delegates, the reached states,
-- what stands for each, the states that stay, and the number with which m is refused
module _ (r m : Rule) (delegates : List ℕ) (reached : ℕ) (chosen : List ℕ) (kept : ℕ) {number : Option ℕ} where
  pub by_hand : install_number r ≡ none
      → (starts_in r).delegates ≡ padded 0 delegates
      → reached_of r.targets r.initials ≡ reached
      → chosen_of (padded 0 delegates) reached ≡ padded 32 chosen
      → kept_of r.targets (padded 32 chosen) r.initials ≡ kept
      → reduced_by r (padded 32 chosen) kept ≡ m
      → install_number m ≡ number
      → reduce_of r ≡ record { number = none; installs = is_none number; rule = m }
  unfolding list_in kept_in
  by_hand taken delegates_are reached_is chosen-are kept-is made installs =
      let list : chosen_of (starts_in r).delegates (reached_of r.targets r.initials) ≡ padded 32 chosen =
      ap (λ (d : List ℕ). chosen_of d (reached_of r.targets r.initials)) delegates_are
      ∙ ap (chosen_of (padded 0 delegates)) reached_is
      ∙ chosen-are in
      let same : reduced_of r ≡ m =
      ap (λ (l : List ℕ). reduced_by r l (kept_of r.targets l r.initials)) list
      ∙ ap (reduced_by r (padded 32 chosen)) kept-is
      ∙ made in
      ap (λ (o : Option ℕ). reducing_by o (reduced_of r)) taken
      ∙ ap (reducing_by none) same
      ∙ ap (λ (o : Option ℕ). record { number = none; installs = is_none o; rule = m }) installs

-- ---- the large one, a lemma a step
abbrev stand : List ℕ
stand = list_from 0 26 (λ q. q) ++ (0 ∷ [])

few_number : install_number few_sets ≡ none
unfolding install_number bad_targets any_below union index_of numbered expand_from close_from keys_up_to sets_of too_many
few_number = refl

few_delegates : (starts_in few_sets).delegates ≡ padded 0 stand
unfolding install_number bad_targets any_below union index_of numbered expand_from close_from keys_up_to sets_of too_many next_set singleton_number delegate_in start_count final follow every first_from alike_to live_of lowest_of delegate_of starts_of starts_in list_from total gather turns
few_delegates = refl

many_number : install_number many_sets ≡ some 9
unfolding install_number bad_targets any_below union index_of numbered expand_from close_from keys_up_to sets_of too_many
many_number = refl

few_reduced : reduce_of few_sets ≡ too_large many_sets
unfolding union delegate_in first_from list_from total gather turns
few_reduced = by_hand few_sets many_sets stand 134217727 stand 67108863 few_number few_delegates refl refl refl refl many_number

pub more_sets : (install_number few_sets ≡ none) × (install_number (reduce_of few_sets).rule ≡ some 9)
more_sets = (few_number, ap (λ (m : Reducing). install_number m.rule) few_reduced ∙ many_number)

many_refused : reduce_of many_sets ≡ refused_by 9
many_refused = ap (λ (o : Option ℕ). reducing_by o (reduced_of many_sets)) many_number

pub answered : Answered reductions
unfolding install_number bad_targets any_below union index_of numbered expand_from close_from keys_up_to sets_of too_many next_set singleton_number delegate_in start_count final follow every first_from alike_to live_of lowest_of delegate_of starts_of starts_in list_from total gather turns
answered = (
  by_hand not_reached once (0 ∷ 1 ∷ 2 ∷ []) 3 (0 ∷ 1 ∷ []) 3 refl refl refl refl refl refl refl,
  (
    by_hand dead once (0 ∷ 1 ∷ 32 ∷ []) 7 (0 ∷ 1 ∷ []) 3 refl refl refl refl refl refl refl,
    (
      by_hand lower_not_reached twice (0 ∷ 1 ∷ 1 ∷ 3 ∷ 3 ∷ []) 21 (0 ∷ 32 ∷ 2 ∷ 32 ∷ 4 ∷ []) 21 refl refl refl refl refl refl refl,
      (
        by_hand second even (0 ∷ 1 ∷ 2 ∷ []) 6 (32 ∷ 1 ∷ 2 ∷ []) 6 refl refl refl refl refl refl refl,
        (
          by_hand alike odd (0 ∷ 32 ∷ 0 ∷ 3 ∷ []) 15 (0 ∷ 32 ∷ 0 ∷ 3 ∷ []) 9 refl refl refl refl refl refl refl,
          (
            by_hand behind_merged twice_or_thrice (0 ∷ 1 ∷ 1 ∷ 3 ∷ 4 ∷ 5 ∷ []) 63 (0 ∷ 1 ∷ 1 ∷ 3 ∷ 4 ∷ 5 ∷ []) 27 refl refl refl refl refl refl refl,
            (
              by_hand no_text (rule 1 1 0 0 no_targets) (32 ∷ 32 ∷ 2 ∷ []) 3 [] 0 refl refl refl refl refl refl refl,
              (
                by_hand even even (0 ∷ 1 ∷ []) 3 (0 ∷ 1 ∷ []) 3 refl refl refl refl refl refl refl,
                (
                  few_reduced,
                  (many_refused, (refl, (refl, (refl, (refl, tt))))),
                ),
              ),
            ),
          ),
        ),
      ),
    ),
  ),
)
