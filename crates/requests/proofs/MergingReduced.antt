-- TWO RULES, REDUCED, MADE ONE, sentence by sentence. Under each stands the theorem that meets it;
-- its proof only cites the file that has it. To believe them, read the definitions that they name:
--
--   Way                         both, either, interleaving          merging/src/lib.rt
--   merge_reduced_of way one two  what merging two values answers     mergereduce/specs/MergeReduced
--   merge_reduced_conditions ..  the numbers, in order               mergereduce/specs/MergeReduced
--   reduced_or_own r            what stands for the rule r          mergereduce/specs/MergeReduced
--   kept_pairs, pair_count      the pairs that stay, and how many   mergereduce/specs/MergeReduced
--   rank m q                    how many members of m are below q   masks/specs/Turns
--   trimmed_pairs way one two   the rule of the pairs that stay     mergereduce/specs/MergeReduced
--   Counted a p                 p is reachable and live             mergereduce/specs/Claims
--   InOrder, MadeOf             the states so counted, and a rule   mergereduce/specs/Claims
--                               made of them, in words
--   empty_rule k                one state, and all masks 0          reducing/specs/Claims
--   RefusedExactly, Mergeable   number by number                    mergereduce/specs/Claims
--   merged_reduced, Answered    rules merged by hand                mergereduce/specs/Worked
--   reduce_of r                 a rule reduced                      reducing/specs/Reducing
--   Lean r                      reached, live, no two states alike  reducing/specs/Claims
--   merge_of way one two        merging alone (R-10)                merging/specs/Merging
--   merged_by, Merges           each way's states, and its texts    merging/specs/Languages
--   Interleaved a b w           an interleaving of one from each    products/specs/Claims
--   rule_conditions r           3, 4, 6, 8 of a rule (R-3)          rulecheck/specs/Checking
--   NoneHolds, FirstHolds       no condition; the first that holds  base/specs/Conditions
--   AllZero r                   every number of it is 0             ruleformat/specs/Claims
--   Accepts                     automata and their texts (000)      automaton/specs/Automaton
--   Live                        of states (R-7)                     delegates/specs/Alike
--   automaton_of r              of a rule                           automaton/specs/Rules
--   MayMergeReduced, .. C       what the contracts allow            specs/MergeReducedFunction
--   way_of x                     the way of C's number               merging/specs/Merging
--   merge_shown                 C's numbers                         c_merge/specs/Numbers
--   verdict_in h, text_in h     what 01 says of a list of calls     histories/specs/History
--
-- All that they rest on stands in these files of specs/ (tests/believed):
--   base Answers, Conditions, Lists, Options, Totals; limits Limits; flags Flags; masks Masks,
--   Turns; automaton Automaton, Rules, Successor; rulecheck Checking, Worked; ruleformat Claims,
--   Format, Reader, Refusals; numbering Numbering; subsets Sets, mirror/Singles; delegates Alike,
--   Claims, mirror/Classes; marks Marks; chunks Chunks; joins Joining; calls Calls, Replies;
--   histories History; products Claims, Interleavings, Products; merging Languages, Merged,
--   Merging, Worked; c_merge Numbers; reducing Claims, Reduced, Reducing, Worked; mergereduce
--   Claims, MergeReduced, Trimmed, Worked; requests MergeReducedFunction.
use Rattle.base.specs.declared.Refusal.{Refusal}
use Rattle.std.proofs.Common.{Result}
use mathlib.Core.Path.{◌≡◌, ap, ◌∙◌}
use mathlib.Core.Logic.{◌↔◌, ◌⊎◌}
use mathlib.Core.Bool.{true}
use mathlib.Core.List.{List}
use mathlib.Core.Option.{none, some}
use Prim.Native.Nat.{ℕ, ◌≤◌, ◌<◌}
use lib.ListN.{length}
use Rattle.base.specs.Conditions.{NoneHolds, FirstHolds}
use Rattle.limits.specs.Limits.{most_states, target_cells}
use Rattle.masks.specs.Masks.{◌∈◌}
use Rattle.automaton.specs.declared.Rule.{Rule}
use Rattle.automaton.specs.Automaton.{Automaton, Accepts}
use Rattle.automaton.specs.Rules.{automaton_of, WellFormed}
use Rattle.rulecheck.specs.Checking.{rule_number}
use Rattle.ruleformat.specs.Claims.{AllZero}
use Rattle.calls.specs.Replies.{yes_with, no_with}
use Rattle.calls.specs.Calls.{Call}
use Rattle.histories.specs.History.{rule_in, board_in, empties_in, summed_in, text_in, verdict_in}
use Rattle.products.specs.Claims.{Interleaved}
use Rattle.merging.specs.declared.Way.{Way}
use Rattle.merging.specs.declared.Way.TheVariants as way
use Rattle.merging.specs.Languages.{merged_by, Merges}
use Rattle.merging.specs.Merging.{merge_outcome, merge_of, way_of}
use Rattle.reducing.specs.Reducing.{reduce_of}
use Rattle.reducing.specs.Claims.{Lean}
use Rattle.mergereduce.specs.MergeReduced.{reduced_or_own, size, kept_pairs, trimmed_pairs, pair_count, merge_reduced_conditions, merge_reduced_of}
use Rattle.mergereduce.specs.Worked.{merged_reduced, Answered}
use Rattle.mergereduce.specs.Claims.{Counted, InOrder, MadeOf, RefusedExactly, MergeReducedLaw}
use Rattle.mergereduce.proofs.Claims as mergereduce
use Rattle.c_merge.specs.declared.MergeNumbers.{MergeNumbers}
use Rattle.c_merge.specs.Numbers.{merge_shown, merge_read_back}
use Rattle.c_mergereduced.proofs.ReadBack as c_merge
use Rattle.c_mergereduced.proofs.Asks as c_asks
use Rattle.requests.specs.MergeReducedFunction.{AsksMergeReduced, MayMergeReduced, AsksMergeReducedC, MayMergeReducedC}
use Rattle.requests.proofs.Judged.{yes_exactly, no_exactly}

-- ---- THE CALL
-- "reduces both rules, builds only the pairs that are reachable and live, and reduces the result".
-- All that is promised of it, in one place; the sentences below are its parts:
pub merging_law : (w : Way) (one two : Rule) → MergeReducedLaw w one two
merging_law = (mergereduce.claims).merging

-- where it is accepted, the value passes the check of R-3, and has the symbols of the two:
pub checked : (w : Way) (one two : Rule) → (merge_reduced_of w one two).number ≡ none → rule_number (merge_reduced_of w one two).rule ≡ none
checked w one two = (merging_law w one two).checked

pub symbols : (w : Way) (one two : Rule) → (merge_reduced_of w one two).number ≡ none → (merge_reduced_of w one two).rule.k ≡ one.k
symbols w one two = (merging_law w one two).symbols

-- and rules worked by hand come to what stands beside them:
pub by_hand : Answered merged_reduced
by_hand = (mergereduce.claims).answered

-- ---- THE THREE LANGUAGES
-- "a text both accept, a text either accepts, and a text that is an interleaving of one from each"
-- (R-10), of the two rules as they are given:
pub both : (one two : Rule) → (merge_reduced_of way.Both one two).number ≡ none → (w : List ℕ)
    → Accepts (automaton_of (merge_reduced_of way.Both one two).rule) w ↔ (Accepts (automaton_of one) w × Accepts (automaton_of two) w)
both one two = (merging_law way.Both one two).language

pub either : (one two : Rule) → (merge_reduced_of way.Either one two).number ≡ none → (w : List ℕ)
    → Accepts (automaton_of (merge_reduced_of way.Either one two).rule) w ↔ (Accepts (automaton_of one) w ⊎ Accepts (automaton_of two) w)
either one two = (merging_law way.Either one two).language

pub interleaving : (one two : Rule) → (merge_reduced_of way.Interleaving one two).number ≡ none → (w : List ℕ)
    → Accepts (automaton_of (merge_reduced_of way.Interleaving one two).rule) w ↔ Interleaved (automaton_of one) (automaton_of two) w
interleaving one two = (merging_law way.Interleaving one two).language

-- ---- THE STEPS
-- "Where reducing either rule or the result would be refused with 9, that step is left out (the
-- rule as it is is used)": what stands for a rule is the rule reduced, or the rule itself where
-- that is refused, and a checked rule is refused with 9 alone.
pub reduced : (r : Rule) → (reduce_of r).number ≡ none → reduced_or_own r ≡ (reduce_of r).rule
reduced r = ((mergereduce.claims).instead r).reduced

pub left_out : (r : Rule) (x : ℕ) → (reduce_of r).number ≡ some x → reduced_or_own r ≡ r
left_out r = ((mergereduce.claims).instead r).own

pub with_9_alone : (r : Rule) → rule_number r ≡ none → (x : ℕ) → (reduce_of r).number ≡ some x → x ≡ 9
with_9_alone r = ((mergereduce.claims).instead r).nine

-- "builds only the pairs that are reachable and live": a pair (for either, a state of one of the
-- two) is kept exactly when some text leads to it from an initial one and some text from it to a
-- final one, in the product of the two rules as they were reduced; each of them is counted.
module _ (w : Way) (one two : Rule) (first : rule_number one ≡ none) (second : rule_number two ≡ none) (same : one.k ≡ two.k) where
  abbrev product : Automaton
  product = merged_by w (automaton_of (reduced_or_own one)) (automaton_of (reduced_or_own two))

  pub counted : (p : ℕ) → p ∈ kept_pairs w (reduced_or_own one) (reduced_or_own two) ↔ Counted product p
  counted = ((merging_law w one two).pairs first second same).kept

  pub each_counted : (p : ℕ) → p ∈ kept_pairs w (reduced_or_own one) (reduced_or_own two)
      → p < size w (reduced_or_own one) (reduced_or_own two)
  each_counted = ((merging_law w one two).pairs first second same).below

  -- their number is how many they are: listed in their order, from the lowest, they are so many
  pub in_order : InOrder product (pair_count w (reduced_or_own one) (reduced_or_own two))
  in_order = ((merging_law w one two).pairs first second same).number

  -- and a rule is made of them, where they are at most 32: they are its states, as many as they
  -- are, which keep their order, and their arcs, initial and final states are the product's; one
  -- state and all masks 0 where there is none
  pub made : pair_count w (reduced_or_own one) (reduced_or_own two) ≤ most_states
      → MadeOf product (reduced_or_own one).k (pair_count w (reduced_or_own one) (reduced_or_own two))
      (trimmed_pairs w (reduced_or_own one) (reduced_or_own two))
  made = ((merging_law w one two).pairs first second same).made

  -- no other value is so made: the words fix every number of it
  pub only : pair_count w (reduced_or_own one) (reduced_or_own two) ≤ most_states
      → (count : ℕ) (t : Rule) → length t.targets ≡ target_cells → WellFormed t
      → MadeOf product (reduced_or_own one).k count t → t ≡ trimmed_pairs w (reduced_or_own one) (reduced_or_own two)
  only = ((merging_law w one two).pairs first second same).only

-- "and reduces the result": the value is what stands for that rule, which passes the check of R-3,
-- so that `reduced`, `left_out` and `with_9_alone` hold of it too.
pub result : (w : Way) (one two : Rule) → (merge_reduced_of w one two).number ≡ none
    → (merge_reduced_of w one two).rule ≡ reduced_or_own (trimmed_pairs w (reduced_or_own one) (reduced_or_own two))
result w one two = (merging_law w one two).rule

pub rule_of_pairs : (w : Way) (one two : Rule) → (merge_reduced_of w one two).number ≡ none
    → rule_number (trimmed_pairs w (reduced_or_own one) (reduced_or_own two)) ≡ none
rule_of_pairs w one two = (merging_law w one two).rule_of_pairs

-- Every state of it is reached, every state is live and no two are alike, where some text is
-- accepted and that reduction is not refused.
pub lean : (w : Way) (one two : Rule) → (merge_reduced_of w one two).number ≡ none
    → (reduce_of (trimmed_pairs w (reduced_or_own one) (reduced_or_own two))).number ≡ none
    → (t : List ℕ) → Accepts (automaton_of (merge_reduced_of w one two).rule) t → Lean (merge_reduced_of w one two).rule
lean w one two = (merging_law w one two).lean

-- ---- THE NUMBERS
-- "refused with 3, 4, 6, 8 of the first, then of the second, 36, 37", and 37 by the pairs that are
-- kept alone (pair_count). Accepted exactly when no condition holds, refused with a number exactly
-- when that one is the first that holds:
pub accepted : (w : Way) (one two : Rule) → ((merge_reduced_of w one two).number ≡ none) ↔ NoneHolds (merge_reduced_conditions w one two)
accepted w one two = (merging_law w one two).accepted

pub refused : (w : Way) (one two : Rule) (x : ℕ) → ((merge_reduced_of w one two).number ≡ some x) ↔ FirstHolds x (merge_reduced_conditions w one two)
refused w one two = (merging_law w one two).refused

-- Number by number: 3, 4, 6, 8 of the first, then of the second, 36 exactly when both pass and k
-- differs, 37 exactly when both pass, k is the same and more than 32 pairs are counted; no other.
pub number_by_number : (w : Way) (one two : Rule) → RefusedExactly w one two
number_by_number = (mergereduce.claims).refused

-- "nothing that R-10's function takes is refused here":
pub no_less : (w : Way) (one two : Rule) → (merge_of w one two).number ≡ none → (merge_reduced_of w one two).number ≡ none
no_less w one two = (merging_law w one two).no_less

-- a refused call carries zeros (R-3):
pub zeros : (w : Way) (one two : Rule) (x : ℕ) → (merge_reduced_of w one two).number ≡ some x → AllZero (merge_reduced_of w one two).rule
zeros w one two = (merging_law w one two).zeros

-- ---- THE FUNCTIONS
-- `merge_reduced` asks nothing, and may return that answer and no other:
pub asks_nothing : (w : Way) (one two : Rule) → AsksMergeReduced w one two
asks_nothing w one two = tt

pub allowed : (w : Way) (one two : Rule) (r : Result Rule Refusal) → MayMergeReduced w one two r ↔ (merge_outcome r ≡ merge_reduced_of w one two)
allowed w one two r = ((λ m. m.1), λ e. ((w, (one, (two, tt))), e))

-- and so may the function that C links, in numbers of which nothing is lost. The ways have the
-- numbers of merging.
pub asks_nothing_from_C : (x : ℕ) (one two : Rule) → AsksMergeReducedC x one two
asks_nothing_from_C = c_asks.merge_reduced_asks_nothing

pub from_C : (x : ℕ) (one two : Rule) (r : MergeNumbers) → MayMergeReducedC x one two r ↔ (r ≡ merge_shown (merge_reduced_of (way_of x) one two))
from_C x one two r = ((λ m. m.1), λ e. ((x, (one, (two, tt))), e))

pub read_back : (x : ℕ) (one two : Rule) (r : MergeNumbers) → MayMergeReducedC x one two r → merge_read_back r ≡ merge_reduced_of (way_of x) one two
read_back x one two r m = ap merge_read_back ((from_C x one two r).0 m) ∙ (c_merge.claims).merge_reduced_read_back (way_of x) one two

-- ---- FROM TWO RULES TO A VERDICT
-- Where the rule of the judge is the two so made one, and no place is empty, the verdict is yes
-- exactly when the standing chunks, without their idle marks, are such a text of the two, and no
-- exactly when they are not.
module _ (w : Way) (one two : Rule) (e : (merge_reduced_of w one two).number ≡ none) (h : List Call)
    (rule : rule_in h ≡ (merge_reduced_of w one two).rule) where
  pub judged_yes : board_in h ≡ true → empties_in h ≡ 0
      → (verdict_in h ≡ yes_with (summed_in h)) ↔ Merges w (automaton_of one) (automaton_of two) (text_in h)
  judged_yes = yes_exactly h (merge_reduced_of w one two).rule (Merges w (automaton_of one) (automaton_of two) (text_in h)) rule ((merging_law w one two).language e (text_in h))

  pub judged_no : board_in h ≡ true → empties_in h ≡ 0
      → (verdict_in h ≡ no_with (summed_in h)) ↔ (Merges w (automaton_of one) (automaton_of two) (text_in h) → ⊥)
  judged_no = no_exactly h (merge_reduced_of w one two).rule (Merges w (automaton_of one) (automaton_of two) (text_in h)) rule ((merging_law w one two).language e (text_in h))
