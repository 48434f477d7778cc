-- What is claimed of merging reduced rules, for rules worked by hand and for every two values;
-- proofs/Claims.antt proves it.
--
--   Counted a p             some text leads in a from an initial state to p, and p is live
--   InOrder a count         there are count such states of a: old p is the one that has p of them
--                           below it
--   MadeOf a k count t      the rule t has these as its states, with k symbols, and the arcs and
--                           marks of a
--   InsteadLaw r            what stands for the rule r: r reduced, or r itself
--   PairsLaw way one two    the pairs that are counted, of two rules as they are, and the rule made
--                           of them
--   Mergeable way one two   two well-formed rules with the same k, and at most 32 pairs counted of
--                           the two as they are reduced
--   RefusedExactly way ..   which number the two have, condition by condition
--   MergeReducedLaw way ..  all that is promised of merging two values
use Rattle.std.specs.Prelude.{◌≡◌, ◌↔◌, ◌⊎◌, List, ℕ, ◌≤◌, ◌<◌, length}
use Rattle.std.proofs.Math.Option.{none, some}
use Rattle.base.specs.Conditions.{NoneHolds, FirstHolds}
use Rattle.limits.specs.Limits.{most_states, target_cells}
use Rattle.masks.specs.Masks.{◌∈◌}
use Rattle.automaton.specs.declared.Rule.{Rule}
use Rattle.automaton.specs.Automaton.{Automaton, Arc, Run, Accepts}
use Rattle.automaton.specs.Rules.{automaton_of, WellFormed}
use Rattle.rulecheck.specs.Checking.{rule_number}
use Rattle.ruleformat.specs.Claims.{AllZero}
use Rattle.delegates.specs.Alike.{Live}
use Rattle.merging.specs.declared.Way.{Way}
use Rattle.merging.specs.declared.Way.TheVariants.{Both}
use Rattle.merging.specs.Languages.{merged_by, Merges}
use Rattle.merging.specs.Merging.{merge_of}
use Rattle.merging.specs.Worked as worked
use Rattle.reducing.specs.Reducing.{reduce_of}
use Rattle.reducing.specs.Claims.{empty_rule, Lean}
use Rattle.mergereduce.specs.Worked.{once_in, four_or_more, six_times, merged_reduced, Answered}
use Rattle.mergereduce.specs.MergeReduced.{reduced_or_own, size, kept_pairs, trimmed_pairs, pair_count, merge_reduced_conditions, merge_reduced_of}

pub record Counted (a : Automaton) (p : ℕ) : Type 0 where
  pub from : ℕ
  pub initial : a.Initial from
  pub text : List ℕ
  pub run : Run a from text p
  pub live : Live a p

pub record InOrder (a : Automaton) (count : ℕ) : Type 0 where
  pub old : ℕ → ℕ
  -- each is counted, and each that is counted is there
  pub own : (p : ℕ) → p < count → Counted a (old p)
  pub there : (x : ℕ) → Counted a x → (p : ℕ) × (p < count) × (old p ≡ x)
  -- states keep their order
  pub rises : (p q : ℕ) → p < q → q < count → old p < old q

pub record MadeOf (a : Automaton) (k count : ℕ) (t : Rule) : Type 0 where
  pub order : InOrder a count
  pub symbols : t.k ≡ k
  -- as many states as are counted; where none is, one state, no arcs, no initial and no final state
  pub states : 1 ≤ count → t.n ≡ count
  pub nothing : count ≡ 0 → t ≡ empty_rule k
  -- what each was: initial, final, and from where to where an arc leads
  pub initial : (p : ℕ) → p < count → (automaton_of t).Initial p ↔ a.Initial (order.old p)
  pub final : (p : ℕ) → p < count → (automaton_of t).Final p ↔ a.Final (order.old p)
  pub arc : (p s q : ℕ) → p < count → q < count → Arc (automaton_of t) p s q ↔ Arc a (order.old p) s (order.old q)

pub record InsteadLaw (r : Rule) : Type 0 where
  -- the rule reduced, or the rule itself where that is refused; a checked rule is refused with 9
  -- alone
  pub reduced : (reduce_of r).number ≡ none → reduced_or_own r ≡ (reduce_of r).rule
  pub own : (x : ℕ) → (reduce_of r).number ≡ some x → reduced_or_own r ≡ r
  pub nine : rule_number r ≡ none → (x : ℕ) → (reduce_of r).number ≡ some x → x ≡ 9

pub record PairsLaw (way : Way) (one two : Rule) : Type 0 where
  -- those that are kept are the reachable and live ones, all of them below the number of all
  pub kept : (p : ℕ) → p ∈ kept_pairs way one two ↔ Counted (merged_by way (automaton_of one) (automaton_of two)) p
  pub below : (p : ℕ) → p ∈ kept_pairs way one two → p < size way one two
  -- their number is how many they are; where they are at most 32 the rule is made of them, and no
  -- other value is so made
  pub number : InOrder (merged_by way (automaton_of one) (automaton_of two)) (pair_count way one two)
  pub made : pair_count way one two ≤ most_states
      → MadeOf (merged_by way (automaton_of one) (automaton_of two)) one.k (pair_count way one two) (trimmed_pairs way one two)
  pub only : pair_count way one two ≤ most_states → (count : ℕ) (t : Rule) → length t.targets ≡ target_cells → WellFormed t
      → MadeOf (merged_by way (automaton_of one) (automaton_of two)) one.k count t → t ≡ trimmed_pairs way one two

pub record Mergeable (way : Way) (one two : Rule) : Type 0 where
  pub first : WellFormed one
  pub second : WellFormed two
  pub same : one.k ≡ two.k
  pub fits : pair_count way (reduced_or_own one) (reduced_or_own two) ≤ most_states

pub record RefusedExactly (way : Way) (one two : Rule) : Type 0 where
  -- no number exactly where the two can be merged
  pub taken : ((merge_reduced_of way one two).number ≡ none) ↔ Mergeable way one two
  -- a number of R-3: the first rule's, or the second's where the first has none
  pub of_a_rule : (x : ℕ) → x < 36 → ((merge_reduced_of way one two).number ≡ some x)
      ↔ ((rule_number one ≡ some x) ⊎ (WellFormed one × (rule_number two ≡ some x)))
  -- two well-formed rules with different k
  pub number_36 : ((merge_reduced_of way one two).number ≡ some 36)
      ↔ (WellFormed one × WellFormed two × (one.k ≡ two.k → ⊥))
  -- with the same k, and more than 32 pairs counted
  pub number_37 : ((merge_reduced_of way one two).number ≡ some 37)
      ↔ (WellFormed one × WellFormed two × (one.k ≡ two.k) × (most_states < pair_count way (reduced_or_own one) (reduced_or_own two)))
  -- no other number
  pub no_other : (x : ℕ) → (merge_reduced_of way one two).number ≡ some x
      → (x ≡ 3) ⊎ (x ≡ 4) ⊎ (x ≡ 6) ⊎ (x ≡ 8) ⊎ (x ≡ 36) ⊎ (x ≡ 37)

pub record MergeReducedLaw (way : Way) (one two : Rule) : Type 0 where
  -- accepted exactly when none of the conditions holds, refused with a number exactly when that one
  -- is the first that holds; with zeros then
  pub accepted : ((merge_reduced_of way one two).number ≡ none) ↔ NoneHolds (merge_reduced_conditions way one two)
  pub refused : (x : ℕ) → ((merge_reduced_of way one two).number ≡ some x) ↔ FirstHolds x (merge_reduced_conditions way one two)
  pub zeros : (x : ℕ) → (merge_reduced_of way one two).number ≡ some x → AllZero (merge_reduced_of way one two).rule
  -- the pairs that are counted are those of the two rules reduced
  pub pairs : rule_number one ≡ none → rule_number two ≡ none → one.k ≡ two.k → PairsLaw way (reduced_or_own one) (reduced_or_own two)
  -- the value is the rule of these, reduced again; that rule passes the check of a rule as a value
  pub rule : (merge_reduced_of way one two).number ≡ none
      → (merge_reduced_of way one two).rule ≡ reduced_or_own (trimmed_pairs way (reduced_or_own one) (reduced_or_own two))
  pub rule_of_pairs : (merge_reduced_of way one two).number ≡ none
      → rule_number (trimmed_pairs way (reduced_or_own one) (reduced_or_own two)) ≡ none
  -- and so does the value, and it has their symbols
  pub checked : (merge_reduced_of way one two).number ≡ none → rule_number (merge_reduced_of way one two).rule ≡ none
  pub symbols : (merge_reduced_of way one two).number ≡ none → (merge_reduced_of way one two).rule.k ≡ one.k
  -- it accepts a text exactly when the way says so of the two rules
  pub language : (merge_reduced_of way one two).number ≡ none → (w : List ℕ)
      → Accepts (automaton_of (merge_reduced_of way one two).rule) w ↔ Merges way (automaton_of one) (automaton_of two) w
  -- it is lean where some text is accepted, and reducing the rule of the pairs is not refused
  pub lean : (merge_reduced_of way one two).number ≡ none
      → (reduce_of (trimmed_pairs way (reduced_or_own one) (reduced_or_own two))).number ≡ none
      → (w : List ℕ) → Accepts (automaton_of (merge_reduced_of way one two).rule) w → Lean (merge_reduced_of way one two).rule
  -- nothing that merging takes is refused
  pub no_less : (merge_of way one two).number ≡ none → (merge_reduced_of way one two).number ≡ none

pub record Claims : Type 0 where
  -- rules merged by hand, and refusals at the edges; two of them are beyond what merging alone
  -- takes
  pub answered : Answered merged_reduced
  pub beyond : (merge_of Both (once_in 9) (once_in 5) ≡ worked.refused 37) × (merge_of Both four_or_more six_times ≡ worked.refused 37)
  -- merging any two values
  pub merging : (way : Way) (one two : Rule) → MergeReducedLaw way one two
  pub refused : (way : Way) (one two : Rule) → RefusedExactly way one two
  pub instead : (r : Rule) → InsteadLaw r
  pub pairs : (way : Way) (one two : Rule) → WellFormed one → WellFormed two → one.k ≡ two.k → PairsLaw way one two
