-- R-10, TWO RULES MADE ONE, sentence by sentence. Under each stands the theorem that meets it; its
-- proof only cites the file that has it. To believe them, read the definitions that they name:
--
--   Way                         both, either, interleaving              merging/src/lib.rt
--   merge_of way one two        what merging two values answers         merging/specs/Merging
--   merge_conditions way ..     the numbers, in order                   merging/specs/Merging
--   rule_conditions r           3, 4, 6, 8 of a rule as a value (R-3)   rulecheck/specs/Checking
--   NoneHolds, FirstHolds       no condition; the first that holds      base/specs/Conditions
--   merged_of way one two       the value, number by number             merging/specs/Merged
--   InPairs, SideBySide         pairs and states, in words              products/specs/Words
--   MadeBy, Merges              each way's states, and its texts        merging/specs/Languages
--   Interleaving u v w          w is an interleaving of u and v         products/specs/Interleavings
--   TwoRuns way .., Woven       two runs along one text                 products/specs/Claims
--   Accepts, Run, Arc           automata and their runs (000)           automaton/specs/Automaton
--   automaton_of r, automaton_in f  of a rule, and of a file's bytes      automaton/specs/Rules, ruleformat/specs/Language
--   MergeLaw, RefusedExactly    all of the call; number by number       merging/specs/Claims
--   MayMerge, MayMergeC         what the functions' contracts allow     requests/specs/MergeFunction
--   way_of x, merge_shown        C's numbers                             merging/specs/Merging, c_merge/specs/Numbers
--   answer_to, merge_lines      a line of `rulemerge`, and the machine  mergestream/specs/Texts
--   FedBlocks; answers_to       blocks through functions; the answers   linetexts/specs/Functions, Alone
--   WorkedLines, Written        a line for each word, and answers, by hand   mergetext/specs/Worked
--   line_in l; SaysMerge, SaysLine  what a line means; a line of files  mergetext/specs/Lines, Claims
--   compared_files, reduced_file  what comparing and reducing files is answered   mergetext/specs/Answers
--   compare_of; reduce_of       two rules compared; a rule reduced      compare/specs/Search, reducing/specs/Reducing
--   verdict_in h, text_in h     what 01 says of a list of calls         histories/specs/History
--
-- one and two are any values, in which any numbers may stand. A proved function ends and stays within
-- its bounds. Assumes nothing.
-- All that they rest on stands in these files of specs/ (tests/believed):
--   base Answers, Conditions, Lists, Options, Totals; limits Limits; flags Flags; text Numerals,
--   Writing; answers Answers; masks Masks, Turns; automaton Automaton, Rules, Successor;
--   rulecheck Checking, Worked; ruleformat Claims, Format, Language, Reader, Refusals, Writing;
--   numbering Numbering; compositions Relations; mappings Mappings, Packing; keys Kinds, Tables;
--   subsets Sets, mirror/Singles; searches Search; compare Compared, Search; delegates Alike,
--   Claims, mirror/Classes; marks Marks; chunks Chunks; joins Joining; calls Calls, Replies;
--   histories History; fields Bytes, Claims; lines Splitting; hexfields Fields, Reading;
--   linetexts Alone, Feeding, Functions, Parts; products Claims, Interleavings, Products, Words;
--   merging Claims, Languages, Merged, Merging, Worked; mergetext Answers, Claims, Lines, Worked;
--   mergescan Scanning; mergestream Texts; c_merge Claims, Numbers; reducing Reduced, Reducing;
--   requests MergeFunction.
use Rattle.base.specs.declared.Refusal.{Refusal}
use Rattle.std.proofs.Common.{Result}
use mathlib.Core.Path.{◌≡◌, ap, ◌∙◌, refl}
use mathlib.Core.Logic.{◌↔◌, ◌⊎◌}
use mathlib.Core.Bool.{Bool, true, false}
use mathlib.Core.List.{List, ◌∷◌, ◌++◌, flatten}
use mathlib.Core.Option.{none, some}
use Prim.Native.Nat.{ℕ, ◌≤◌, ◌<◌, ◌+◌, ◌*◌}
use lib.ListN.{length, take}
use Rattle.base.specs.Conditions.{NoneHolds, FirstHolds}
use Rattle.limits.specs.Limits.{longest_file, target_cells, most_states}
use Rattle.automaton.specs.declared.Rule.{Rule}
use Rattle.automaton.specs.Automaton.{Automaton, Run, Accepts}
use Rattle.automaton.specs.Rules.{automaton_of, WellFormed}
use Rattle.rulecheck.specs.Checking.{rule_number}
use Rattle.ruleformat.specs.Refusals.{refusal}
use Rattle.ruleformat.specs.Reader.{rule_of}
use Rattle.ruleformat.specs.Claims.{AllZero}
use Rattle.ruleformat.specs.Language.{automaton_in}
use Rattle.ruleformat.specs.Writing.{file_of}
use Rattle.calls.specs.Replies.{yes_with, no_with}
use Rattle.calls.specs.Calls.{Call, install_number}
use Rattle.histories.specs.History.{rule_in, board_in, empties_in, summed_in, text_in, verdict_in}
use Rattle.lines.specs.Splitting.{lines_of}
use Rattle.fields.specs.Claims.{AllBytes, field_of}
use Rattle.linetexts.specs.Feeding.{State}
use Rattle.linetexts.specs.Functions.{Promised, Ended, FedBlocks}
use Rattle.linetexts.specs.Alone.{answers_to}
use Rattle.products.specs.Interleavings.{Interleaving, marked}
use Rattle.products.specs.Products.{Moving, together, alone, pair_of, product}
use Rattle.products.specs.Words.{InPairs, SideBySide}
use Rattle.products.specs.Claims.{Interleaved, TwoRuns}
use Rattle.products.proofs.Claims as products
use Rattle.merging.specs.declared.Way.{Way}
use Rattle.merging.specs.declared.Way.TheVariants as way
use Rattle.merging.specs.Languages.{Merges, MadeBy}
use Rattle.merging.specs.Merged.{merged_of, states_of}
use Rattle.merging.specs.Merging.{merge_conditions, merge_number, merge_outcome, merge_of, way_of}
use Rattle.merging.specs.Worked.{merges, Answered}
use Rattle.merging.specs.Claims.{RefusedExactly, MergeLaw}
use Rattle.merging.proofs.Claims as merging
use Rattle.compare.specs.declared.Which.{Which}
use Rattle.compare.specs.Compared as compared
use Rattle.compare.specs.Search.{compare_of}
use Rattle.reducing.specs.Reducing.{reduce_of}
use Rattle.mergetext.specs.declared.Verb.TheVariants.{Compare, Reduce}
use Rattle.mergetext.specs.Answers.{files_number, result_file, refused as refused_line, file, apart, same, compared_by, compared_files, reduced_by, reduced_file}
use Rattle.mergetext.specs.Lines.{verb_word, Meaning, merges as merges_files, compares, reduces, malformed, line_in}
use Rattle.mergetext.specs.Worked.{WorkedLines, Written}
use Rattle.mergetext.specs.Claims.{line_of, SaysMerge, SaysLine}
use Rattle.mergetext.proofs.Claims as mergetext
use Rattle.mergescan.specs.declared.Scan.TheVariants as scan
use Rattle.mergescan.specs.Scanning.{Scanned}
use Rattle.mergestream.specs.Texts.{answer_to, merge_lines, merge_state}
use Rattle.mergestream.proofs.Claimed as mergestream
use Rattle.c_merge.specs.declared.MergeNumbers.{MergeNumbers}
use Rattle.c_merge.specs.Numbers.{merge_shown, merge_read_back}
use Rattle.c_merge.specs.Claims as c_claims
use Rattle.c_merge.proofs.ReadBack as c_merge
use Rattle.c_merge.proofs.Asks as c_asks
use Rattle.requests.specs.MergeFunction.{AsksMerge, MayMerge, AsksMergeC, MayMergeC}
use Rattle.demands.proofs.Installing as installing
use Rattle.requests.proofs.Judged.{yes_exactly, no_exactly}

-- The limits that are named below:
pub limits : (most_states ≡ 32) × (target_cells ≡ 512) × (longest_file ≡ 32906)
limits = (refl, refl, refl)

-- ---- THE CALL
-- "From two checked rules of R-3 with n1 and n2 states build a third in three ways."
-- All that is promised of it, in one place; the sentences below are its parts:
pub merging_law : (w : Way) (one two : Rule) → MergeLaw w one two
merging_law = (merging.claims).merging

-- where it is accepted, every number of the value is fixed, and the value passes the check of R-3, so
-- that it can be installed, merged again, or written as a file:
pub value : (w : Way) (one two : Rule) → (merge_of w one two).number ≡ none → (merge_of w one two).rule ≡ merged_of w one two
value w one two = (merging_law w one two).rule

pub checked : (w : Way) (one two : Rule) → (merge_of w one two).number ≡ none → rule_number (merge_of w one two).rule ≡ none
checked w one two = (merging_law w one two).checked

-- and rules worked by hand come to what stands beside them:
pub by_hand : Answered merges
by_hand = (merging.claims).answered

-- ---- THE THREE LANGUAGES
-- "a text both accept, a text either accepts, and a text that is an interleaving of one from each."
-- "Each way's language is proved":
pub both : (one two : Rule) → (merge_of way.Both one two).number ≡ none → (w : List ℕ)
    → Accepts (automaton_of (merge_of way.Both one two).rule) w ↔ (Accepts (automaton_of one) w × Accepts (automaton_of two) w)
both one two = (merging_law way.Both one two).language

pub either : (one two : Rule) → (merge_of way.Either one two).number ≡ none → (w : List ℕ)
    → Accepts (automaton_of (merge_of way.Either one two).rule) w ↔ (Accepts (automaton_of one) w ⊎ Accepts (automaton_of two) w)
either one two = (merging_law way.Either one two).language

pub interleaving : (one two : Rule) → (merge_of way.Interleaving one two).number ≡ none → (w : List ℕ)
    → Accepts (automaton_of (merge_of way.Interleaving one two).rule) w ↔ Interleaved (automaton_of one) (automaton_of two) w
interleaving one two = (merging_law way.Interleaving one two).language

-- what an interleaving is, a second way: each symbol of w is marked as one of u or one of v
pub marks : (u v w : List ℕ) → Interleaving u v w
    ↔ (marks : List Bool) × (length marks ≡ length w) × (u ≡ marked true marks w) × (v ≡ marked false marks w)
marks = (products.claims).by_marks

-- ---- STATES AND ARCS
-- "The pair (q1, q2) is state q1 × n2 + q2" .. "A pair is initial or final when both its members are,
-- and an arc moves both, for interleaving one alone":
pub pairs_move_both : (one two : Rule) → (merge_of way.Both one two).number ≡ none
    → InPairs together (automaton_of one) (automaton_of two) (automaton_of (merge_of way.Both one two).rule)
pairs_move_both one two = (merging_law way.Both one two).made

pub pairs_move_one : (one two : Rule) → (merge_of way.Interleaving one two).number ≡ none
    → InPairs alone (automaton_of one) (automaton_of two) (automaton_of (merge_of way.Interleaving one two).rule)
pairs_move_one one two = (merging_law way.Interleaving one two).made

-- "for either, the second rule's states follow the first's" .. "a state is what it is in its own rule,
-- arcs included":
pub own_states : (one two : Rule) → (merge_of way.Either one two).number ≡ none
    → SideBySide (automaton_of one) (automaton_of two) (automaton_of (merge_of way.Either one two).rule)
own_states one two = (merging_law way.Either one two).made

-- The words leave nothing open: any well-formed value of the type that is so made is the one answered.
pub only : (w : Way) (one two : Rule) → (merge_of w one two).number ≡ none → (r : Rule) → length r.targets ≡ target_cells → WellFormed r
    → MadeBy w (automaton_of one) (automaton_of two) (automaton_of r) → r ≡ (merge_of w one two).rule
only w one two = (merging_law w one two).only

-- "both and interleaving share the facts on pairs": one theorem on runs, for either way of moving, of
-- any two automata with the same symbols.
pub runs : (a b : Automaton) → a.k ≡ b.k → (m : Moving) (q1 q2 p1 p2 : ℕ) (w : List ℕ) → q2 < b.n → p2 < b.n
    → Run (product m a b) (pair_of b.n q1 q2) w (pair_of b.n p1 p2) ↔ TwoRuns m a b q1 q2 w p1 p2
runs = (products.claims).runs

-- ---- THE NUMBERS
-- "After the first rule's numbers of R-3 and then the second's it refuses with 36 two rules with
-- different k, then with 37 more than 32 states in the result." Accepted exactly when no condition
-- holds, refused with a number exactly when that one is the first that holds; number by number below:
pub accepted : (w : Way) (one two : Rule) → ((merge_of w one two).number ≡ none) ↔ NoneHolds (merge_conditions w one two)
accepted w one two = (merging_law w one two).accepted

pub refused : (w : Way) (one two : Rule) (x : ℕ) → ((merge_of w one two).number ≡ some x) ↔ FirstHolds x (merge_conditions w one two)
refused w one two = (merging_law w one two).refused

pub number_by_number : (w : Way) (one two : Rule) → RefusedExactly w one two
number_by_number = (merging.claims).refused

-- The result has n1 * n2 states for both and for interleaving, and n1 + n2 for either; 37 is given
-- to two well-formed rules with the same k exactly where that is more than 32:
pub states_of_result : (n1 n2 : ℕ)
    → (states_of way.Both n1 n2 ≡ n1 * n2) × (states_of way.Interleaving n1 n2 ≡ n1 * n2) × (states_of way.Either n1 n2 ≡ n1 + n2)
states_of_result = (merging.claims).states

pub thirty_seven : (one two : Rule) → WellFormed one → WellFormed two → one.k ≡ two.k
    → (((merge_of way.Both one two).number ≡ some 37) ↔ (32 < one.n * two.n))
    × (((merge_of way.Interleaving one two).number ≡ some 37) ↔ (32 < one.n * two.n))
    × (((merge_of way.Either one two).number ≡ some 37) ↔ (32 < one.n + two.n))
thirty_seven = (merging.claims).thirty_seven

-- R-3: "A later call that takes a checked rule first gives 3, 4, 6 or 8 as installing would" (the
-- conditions of a rule are installing's), and "a refused call .. carries zeros":
pub as_installing : (r : Rule) (x : ℕ) → (x ≡ 3) ⊎ (x ≡ 4) ⊎ (x ≡ 6) ⊎ (x ≡ 8) → (rule_number r ≡ some x) ↔ (install_number r ≡ some x)
as_installing = installing.exactly

pub zeros : (w : Way) (one two : Rule) (x : ℕ) → (merge_of w one two).number ≡ some x → AllZero (merge_of w one two).rule
zeros w one two = (merging_law w one two).zeros

-- ---- THE FUNCTIONS
-- `merge` asks nothing, and may return that answer and no other:
pub asks_nothing : (w : Way) (one two : Rule) → AsksMerge w one two
asks_nothing w one two = tt

pub allowed : (w : Way) (one two : Rule) (r : Result Rule Refusal) → MayMerge w one two r ↔ (merge_outcome r ≡ merge_of w one two)
allowed w one two r = ((λ m. m.1), λ e. ((w, (one, (two, tt))), e))

-- and so may the function that C links, in numbers of which nothing is lost. Every number names a way:
-- 0 both, 1 either, any other interleaving.
pub asks_nothing_from_C : (x : ℕ) (one two : Rule) → AsksMergeC x one two
asks_nothing_from_C = c_asks.merge_asks_nothing

pub from_C : (x : ℕ) (one two : Rule) (r : MergeNumbers) → MayMergeC x one two r ↔ (r ≡ merge_shown (merge_of (way_of x) one two))
from_C x one two r = ((λ m. m.1), λ e. ((x, (one, (two, tt))), e))

pub read_back : (x : ℕ) (one two : Rule) (r : MergeNumbers) → MayMergeC x one two r → merge_read_back r ≡ merge_of (way_of x) one two
read_back x one two r m = ap merge_read_back ((from_C x one two r).0 m) ∙ (c_merge.claims).merge_read_back_lem (way_of x) one two

-- Each of C's numbers in other words than the definition's: accepted and refused, the
-- rule.
pub each_number : c_claims.Claims
each_number = c_merge.claims

pub ways : (way_of 0 ≡ way.Both) × (way_of 1 ≡ way.Either) × ((x : ℕ) → 2 ≤ x → way_of x ≡ way.Interleaving)
ways = ((c_merge.claims).way_0, (c_merge.claims).way_1, (c_merge.claims).way_other)

-- ---- FROM TWO RULES TO A VERDICT
-- A machine with two heads: where the rule of the judge is the two made one, and no place is empty, the
-- verdict is yes exactly when the standing chunks, without their idle marks, are such a text, and no
-- exactly when they are not.
module _ (w : Way) (one two : Rule) (e : (merge_of w one two).number ≡ none) (h : List Call) (rule : rule_in h ≡ (merge_of w one two).rule) where
  pub judged_yes : board_in h ≡ true → empties_in h ≡ 0
      → (verdict_in h ≡ yes_with (summed_in h)) ↔ Merges w (automaton_of one) (automaton_of two) (text_in h)
  judged_yes = yes_exactly h (merge_of w one two).rule (Merges w (automaton_of one) (automaton_of two) (text_in h)) rule ((merging_law w one two).language e (text_in h))

  pub judged_no : board_in h ≡ true → empties_in h ≡ 0
      → (verdict_in h ≡ no_with (summed_in h)) ↔ (Merges w (automaton_of one) (automaton_of two) (text_in h) → ⊥)
  judged_no = no_exactly h (merge_of w one two).rule (Merges w (automaton_of one) (automaton_of two) (text_in h)) rule ((merging_law w one two).language e (text_in h))

-- ---- FROM FILES, BY THE PROGRAM
-- The first file is read, then the second, then they are merged.
pub first_file : (w : Way) (f g : List ℕ) (x : ℕ) → refusal f ≡ some x → files_number w f g ≡ some x
first_file = (mergetext.claims).refused_first

pub second_file : (w : Way) (f g : List ℕ) → refusal f ≡ none → (x : ℕ) → refusal g ≡ some x → files_number w f g ≡ some x
second_file = (mergetext.claims).refused_second

pub two_rules : (w : Way) (f g : List ℕ) → refusal f ≡ none → refusal g ≡ none → files_number w f g ≡ merge_number w (rule_of f) (rule_of g)
two_rules = (mergetext.claims).as_rules

-- From the bytes of the three files:
pub file_read : (w : Way) (f g : List ℕ) → files_number w f g ≡ none
    → (refusal (result_file w f g) ≡ none) × (rule_of (result_file w f g) ≡ merged_of w (rule_of f) (rule_of g))
file_read = (mergetext.claims).result_read

pub file_language : (way : Way) (f g : List ℕ) → files_number way f g ≡ none → (w : List ℕ)
    → Accepts (automaton_in (result_file way f g)) w ↔ Merges way (automaton_in f) (automaton_in g) w
file_language = (mergetext.claims).language

-- The words of the three ways, in bytes, and those of comparing and reducing:
pub lines_by_hand : WorkedLines
lines_by_hand = (mergetext.claims).worked_lines

-- A line merges two files exactly when it is its way's word and two fields that say their bytes,
-- one space between them: hex digits of either case, or `-` for none. Any other is malformed, an
-- empty one too, but for a line that compares two files or reduces one, below. Every way and every
-- two files have a line.
pub line_exactly : (l : List ℕ) (w : Way) (f g : List ℕ) → (line_in l ≡ merges_files w f g) ↔ SaysMerge l w f g
line_exactly = (mergetext.claims).line_exactly

pub line_malformed : (l : List ℕ) → (line_in l ≡ malformed) ↔ ((m : Meaning) → SaysLine l m → ⊥)
line_malformed = (mergetext.claims).malformed_exactly

pub every_pair : (w : Way) (f g : List ℕ) → AllBytes f → AllBytes g → line_in (line_of w f g) ≡ merges_files w f g
every_pair = (mergetext.claims).line_round_trip

-- `compare HEX HEX` compares two files and `reduce HEX` reduces one: exactly the lines of these words with
-- their fields, and every two files, and every one, have such a line.
pub compare_exactly : (l f g : List ℕ) → (line_in l ≡ compares f g) ↔ SaysLine l (compares f g)
compare_exactly = (mergetext.claims).compare_exactly

pub reduce_exactly : (l f : List ℕ) → (line_in l ≡ reduces f) ↔ SaysLine l (reduces f)
reduce_exactly = (mergetext.claims).reduce_exactly

pub every_comparison : (f g : List ℕ) → AllBytes f → AllBytes g → line_in (verb_word Compare ++ (field_of f ++ (32 ∷ field_of g))) ≡ compares f g
every_comparison = (mergetext.claims).compare_round_trip

pub every_reduction : (f : List ℕ) → AllBytes f → line_in (verb_word Reduce ++ field_of f) ≡ reduces f
every_reduction = (mergetext.claims).reduce_round_trip

-- The first file is read, then the second; two files that reading accepts are compared as their rules are
-- (the page Comparing), and a file that it accepts is reduced as its rule is (Reducing).
pub compared_first : (f g : List ℕ) (x : ℕ) → refusal f ≡ some x → compared_files f g ≡ refused_line x
compared_first = (mergetext.claims).compared_first

pub compared_second : (f g : List ℕ) → refusal f ≡ none → (x : ℕ) → refusal g ≡ some x → compared_files f g ≡ refused_line x
compared_second = (mergetext.claims).compared_second

pub compared_rules : (f g : List ℕ) → refusal f ≡ none → refusal g ≡ none → compared_files f g ≡ compared_by (compare_of (rule_of f) (rule_of g))
compared_rules = (mergetext.claims).compared_rules

-- The text that tells them apart is answered with the rule that alone accepts it:
pub compared_apart : (f g : List ℕ) → refusal f ≡ none → refusal g ≡ none → (which : Which) (w : List ℕ)
    → (compared_files f g ≡ apart which w) ↔ (compare_of (rule_of f) (rule_of g) ≡ compared.apart which w)
compared_apart = (mergetext.claims).compared_apart

pub compared_same : (f g : List ℕ) → refusal f ≡ none → refusal g ≡ none
    → (compared_files f g ≡ same) ↔ (compare_of (rule_of f) (rule_of g) ≡ compared.same)
compared_same = (mergetext.claims).compared_same

pub compared_refused : (f g : List ℕ) → refusal f ≡ none → refusal g ≡ none → (x : ℕ)
    → (compared_files f g ≡ refused_line x) ↔ (compare_of (rule_of f) (rule_of g) ≡ compared.refused x)
compared_refused = (mergetext.claims).compared_refused

pub reduced_first : (f : List ℕ) (x : ℕ) → refusal f ≡ some x → reduced_file f ≡ refused_line x
reduced_first = (mergetext.claims).reduced_first

pub reduced_rule : (f : List ℕ) → refusal f ≡ none → reduced_file f ≡ reduced_by (reduce_of (rule_of f))
reduced_rule = (mergetext.claims).reduced_rule

-- A reduced rule is answered as its file, and a refused one with its number.
pub reduced_accepted : (f : List ℕ) → refusal f ≡ none → (reduce_of (rule_of f)).number ≡ none
    → reduced_file f ≡ file (file_of (reduce_of (rule_of f)).rule)
reduced_accepted = (mergetext.claims).reduced_accepted

pub reduced_refused : (f : List ℕ) → refusal f ≡ none → (x : ℕ)
    → (reduced_file f ≡ refused_line x) ↔ ((reduce_of (rule_of f)).number ≡ some x)
reduced_refused = (mergetext.claims).reduced_refused

-- The file that reducing answers is one that reading accepts, and has the reduced rule.
pub reduced_read : (f g : List ℕ) → reduced_file f ≡ file g → (refusal g ≡ none) × (rule_of g ≡ (reduce_of (rule_of f)).rule)
reduced_read = (mergetext.claims).reduced_read

-- The answers themselves, in bytes: `apart first 02`, `apart second -`, `same`, a file's digits, `refused 45`,
-- `malformed`.
pub answers_written : Written
answers_written = (mergetext.claims).answers_written

-- A text of lines, cut into blocks anywhere: `rulemerge` is to write, round by round, block by block and
-- at the end, the answers to its lines. Its buffers can tell a file that is too long. (A round is what the
-- contract of `gather` promises, and the end what that of `finish` does: mergestream/src/lib.rt.)
pub lines : (one two : List ℕ) → longest_file < length one → longest_file < length two
    → {blocks : List (List ℕ)} {s : State Scanned (Unit {0})} {text before after : List ℕ} {n : ℕ}
    → FedBlocks (Promised merge_lines) (merge_state scan.Start one two) blocks s text → Ended merge_lines s before n after
    → text ++ take n after ≡ answers_to answer_to (lines_of (flatten blocks))
lines one two h1 h2 f end = (mergestream.answers).fed (mergestream.begun one two h1 h2) f end
