-- What is claimed of two rules made one, for those worked by hand, for every two rules and every
-- text; proofs/Claims.antt proves it.
--
--   Mergeable way one two     two well-formed rules with the same k, and at most 32 states in the
--                             result
--   RefusedExactly way ..     which number the two have, condition by condition
--   MergeLaw way one two      all that is promised of merging the two, in one place: which number,
--                             which value, what it accepts
use Rattle.std.specs.Prelude.{◌≡◌, ◌↔◌, ◌⊎◌, cond, List, ℕ, ◌+◌, ◌*◌, ◌^◌, ◌≤◌, ◌<◌, ltb, length}
use Rattle.std.proofs.Math.Option.{none, some}
use Rattle.base.specs.Conditions.{NoneHolds, FirstHolds}
use Rattle.limits.specs.Limits.{most_states, most_symbols, target_cells}
use Rattle.masks.specs.Masks.{◌∈◌}
use Rattle.automaton.specs.declared.Rule.{Rule}
use Rattle.automaton.specs.Automaton.{Accepts}
use Rattle.automaton.specs.Rules.{target_mask, automaton_of, WellFormed}
use Rattle.rulecheck.specs.Checking.{rule_number}
use Rattle.ruleformat.specs.Claims.{AllZero}
use Rattle.products.specs.Products.{first_in, second_in}
use Rattle.merging.specs.declared.Way.{Way}
use Rattle.merging.specs.declared.Way.TheVariants.{Both, Either, Interleaving}
use Rattle.merging.specs.Languages.{merged_by, Merges, MadeBy, Same}
use Rattle.merging.specs.Merged.{states_of, pairs, targets_of, merged_of}
use Rattle.merging.specs.Merging.{merge_conditions, merge_number, merge_of}
use Rattle.merging.specs.Worked.{merges, Answered}

pub record Mergeable (way : Way) (one two : Rule) : Type 0 where
  pub first : WellFormed one
  pub second : WellFormed two
  pub same : one.k ≡ two.k
  pub fits : states_of way one.n two.n ≤ most_states

pub record RefusedExactly (way : Way) (one two : Rule) : Type 0 where
  -- no number exactly where the two can be merged
  pub taken : (merge_number way one two ≡ none) ↔ Mergeable way one two
  -- a number of R-3: the first rule's, or the second's where the first has none
  pub of_a_rule : (x : ℕ) → x < 36 → (merge_number way one two ≡ some x)
      ↔ ((rule_number one ≡ some x) ⊎ (WellFormed one × (rule_number two ≡ some x)))
  -- two well-formed rules with different k
  pub number_36 : (merge_number way one two ≡ some 36)
      ↔ (WellFormed one × WellFormed two × (one.k ≡ two.k → ⊥))
  -- with the same k, and more than 32 states in the result
  pub number_37 : (merge_number way one two ≡ some 37)
      ↔ (WellFormed one × WellFormed two × (one.k ≡ two.k) × (most_states < states_of way one.n two.n))
  -- no other number
  pub no_other : (x : ℕ) → merge_number way one two ≡ some x
      → (x ≡ 3) ⊎ (x ≡ 4) ⊎ (x ≡ 6) ⊎ (x ≡ 8) ⊎ (x ≡ 36) ⊎ (x ≡ 37)

pub record MergeLaw (way : Way) (one two : Rule) : Type 0 where
  -- it is accepted exactly when none of the conditions holds, and refused with a number exactly
  -- when that one is the first that holds
  pub accepted : ((merge_of way one two).number ≡ none) ↔ NoneHolds (merge_conditions way one two)
  pub refused : (x : ℕ) → ((merge_of way one two).number ≡ some x) ↔ FirstHolds x (merge_conditions way one two)
  -- where it is refused the value carries zeros
  pub zeros : (x : ℕ) → (merge_of way one two).number ≡ some x → AllZero (merge_of way one two).rule
  -- where it is accepted every number of the value is fixed; of its cells, with zeros for what is
  -- no state of it
  pub rule : (merge_of way one two).number ≡ none → (merge_of way one two).rule ≡ merged_of way one two
  pub cell : (merge_of way one two).number ≡ none → (q s : ℕ)
      → target_mask (merge_of way one two).rule.targets q s
      ≡ cond (ltb s most_symbols)
      (cond (ltb q (states_of way one.n two.n))
      (targets_of way one.n two.n one.targets two.targets q s)
      0)
      0
  -- the value passes the check of a rule as a value
  pub checked : (merge_of way one two).number ≡ none → rule_number (merge_of way one two).rule ≡ none
  -- its automaton is made of those of the two rules as the request says
  pub made : (merge_of way one two).number ≡ none
      → MadeBy way (automaton_of one) (automaton_of two) (automaton_of (merge_of way one two).rule)
  -- and no other value is so made: the request's words fix every number of it
  pub only : (merge_of way one two).number ≡ none → (r : Rule) → length r.targets ≡ target_cells → WellFormed r
      → MadeBy way (automaton_of one) (automaton_of two) (automaton_of r) → r ≡ (merge_of way one two).rule
  -- it accepts a text exactly when the way says so
  pub language : (merge_of way one two).number ≡ none → (w : List ℕ)
      → Accepts (automaton_of (merge_of way one two).rule) w ↔ Merges way (automaton_of one) (automaton_of two) w

pub record Claims : Type 1 where
  -- rules merged by hand, and refusals at the edges
  pub answered : Answered merges
  -- merging any two values
  pub merging : (way : Way) (one two : Rule) → MergeLaw way one two
  pub refused : (way : Way) (one two : Rule) → RefusedExactly way one two
  -- how many states the result has, and so 37, in the words of the request
  pub states : (n1 n2 : ℕ) → (states_of Both n1 n2 ≡ n1 * n2) × (states_of Interleaving n1 n2 ≡ n1 * n2) × (states_of Either n1 n2 ≡ n1 + n2)
  pub thirty_seven : (one two : Rule) → WellFormed one → WellFormed two → one.k ≡ two.k
      → (((merge_of Both one two).number ≡ some 37) ↔ (32 < one.n * two.n))
      × (((merge_of Interleaving one two).number ≡ some 37) ↔ (32 < one.n * two.n))
      × (((merge_of Either one two).number ≡ some 37) ↔ (32 < one.n + two.n))
  -- the one law of pairs: their members
  pub pair_members : (m1 m2 n2 p : ℕ) → m1 < 2 ^ most_states → m2 < 2 ^ n2
      → p ∈ pairs m1 m2 n2 ↔ ((first_in n2 p ∈ m1) × (second_in n2 p ∈ m2))
  -- the result is well formed, and a value of the type
  pub well_formed : (way : Way) (one two : Rule) → Mergeable way one two → WellFormed (merged_of way one two)
  pub cells : (way : Way) (one two : Rule) → length (merged_of way one two).targets ≡ target_cells
  -- its automaton has the states, arcs and marks of the two automata made one
  pub automaton : (way : Way) (one two : Rule) → Mergeable way one two
      → Same (automaton_of (merged_of way one two)) (merged_by way (automaton_of one) (automaton_of two))
  -- and so it accepts a text exactly where its way says so
  pub language : (way : Way) (one two : Rule) → Mergeable way one two → (w : List ℕ)
      → Accepts (automaton_of (merged_of way one two)) w ↔ Merges way (automaton_of one) (automaton_of two) w
