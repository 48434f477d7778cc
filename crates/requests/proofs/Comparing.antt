-- TWO RULES COMPARED: the first trace on which they differ, sentence by sentence. Under each stands the
-- theorem that meets it; its proof only cites the file that has it. To believe them, read the definitions
-- that they name:
--
--   Which                        the first rule, the second              compare/src/lib.rt
--   Due one two a                the answer that is due, in words        compare/specs/Compared
--   Only, Apart, FirstApart      one rule alone accepts; the first text  compare/specs/Compared
--   Same, ManyPairs, Searched    no such text; too many pairs; neither   compare/specs/Compared
--   pair_number one two          3, 4, 6, 8 of either rule, and 36       compare/specs/Compared
--   exchanged a, other_rule      the rules' names exchanged              compare/specs/Compared
--   of_rule which x y            what belongs to the named rule          compare/specs/Compared
--   set_after r w                the set that a text leads to            samples/specs/Samples
--   NoLater, Sooner, Lex         the order of texts                      numbering/specs/Texts
--   Accepts, Run, Equivalent     automata and their runs (000)           automaton/specs/Automaton
--   Reached a m w p              some member of m has a run over w to p  automaton/specs/Successor
--   rule_number r, WellFormed    3, 4, 6, 8 of a rule as a value (R-3)   rulecheck/specs/Checking, automaton/specs/Rules
--   Carries a o; outcome_of a    a value that carries the answer a       compare/specs/Values
--   compare_of one two           the answer that the code gives          compare/specs/Search
--   RefusedExactly               number by number                        compare/specs/Claims
--   pairs, Answered              rules compared by hand                  compare/specs/Worked
--   MayCompare, MayCompareC      what the functions' contracts allow     requests/specs/CompareFunction
--   comparison_shown             C's numbers                             c_compare/specs/Numbers
--   verdict_in h, text_in h      what 01 says of a list of calls         histories/specs/History
--
-- one and two are any values, in which any numbers may stand. What compare_of does need not be believed:
-- `due` says that it is the answer of the words, and no other is. A proved function ends and stays within
-- its bounds. Assumes nothing.
-- All that they rest on stands in these files of specs/ (tests/believed):
--   base Answers, Conditions, Lists, Options, Totals; limits Limits; masks Masks; automaton
--   Automaton, Rules, Successor; rulecheck Checking, Worked; ruleformat Format, Reader, Refusals;
--   numbering Numbering, Texts; compositions Relations; mappings Mappings, Packing; keys Kinds,
--   Tables; subsets Sets, mirror/Singles; searches Search, Texts; samples Samples; compare
--   Claims, Compared, Search, Values, Worked; delegates Alike, Claims, mirror/Classes; marks
--   Marks; chunks Chunks; joins Joining; calls Calls, Replies; histories History; c_compare
--   Claims, Numbers; requests CompareFunction.
use Rattle.base.specs.declared.Refusal.{Refusal}
use Rattle.std.proofs.Common as code
use Rattle.std.proofs.Common.{Result}
use mathlib.Core.Path.{◌≡◌, refl, sym, ap, ◌∙◌, subst}
use mathlib.Core.Logic.{◌↔◌, ◌⊎◌, inl, inr, ⊎_elim}
use mathlib.Core.Bool.{true}
use mathlib.Core.List.{List}
use mathlib.Core.Option.{none, some}
use Prim.Native.Nat.{ℕ, ◌≤◌, ◌<◌}
use lib.ListN.{length}
use Rattle.masks.specs.Masks.{◌∈◌}
use Rattle.limits.specs.Limits.{most_sets}
use Rattle.automaton.specs.declared.Rule.{Rule}
use Rattle.automaton.specs.Automaton.{Text, Accepts, Equivalent}
use Rattle.automaton.specs.Rules.{automaton_of, WellFormed}
use Rattle.automaton.specs.Successor.{Reached}
use Rattle.automaton.proofs.Claims as automaton
use Rattle.rulecheck.specs.Checking.{rule_number}
use Rattle.calls.specs.Replies.{yes_with, no_with}
use Rattle.calls.specs.Calls.{Call, install_number}
use Rattle.histories.specs.History.{rule_in, board_in, empties_in, summed_in, text_in, verdict_in}
use Rattle.histories.proofs.EveryList.{every_list}
use Rattle.numbering.specs.Texts.{Lex}
use Rattle.searches.specs.Texts.{longest_text}
use Rattle.samples.specs.Samples.{set_after}
use Rattle.compare.specs.declared.Apart as declared
use Rattle.compare.specs.declared.Which.{Which}
use Rattle.compare.specs.declared.Which.TheVariants.{First, Second}
use Rattle.compare.specs.Compared.{Only, Apart, FirstApart, Same, ManyPairs, pair_number, Searched, Comparison, apart, same, refused, other_rule, exchanged, of_rule, Due}
use Rattle.compare.specs.Values.{no_text, Outcome, compare_outcome, Carries, outcome_of, comparison_in}
use Rattle.compare.specs.Values as values
use Rattle.compare.specs.Search.{compare_of}
use Rattle.compare.specs.Worked.{pairs, Answered}
use Rattle.compare.specs.Claims.{RefusedExactly}
use Rattle.compare.proofs.Claims as compare
use Rattle.c_compare.specs.declared.CompareNumbers.{CompareNumbers}
use Rattle.c_compare.specs.Numbers.{comparison_shown, comparison_read_back}
use Rattle.c_compare.specs.Claims as c_claims
use Rattle.c_compare.proofs.ReadBack as c_compare
use Rattle.requests.specs.CompareFunction.{AsksCompare, MayCompare, AsksCompareC, MayCompareC}
use Rattle.demands.proofs.Installing as installing

-- The limits that are named below:
pub limits : (longest_text ≡ 511) × (most_sets ≡ 512)
limits = (refl, refl)

-- ---- THE ANSWER
-- The whole in one line: the answer is the one that is due, and none but that is due.
pub due : (one two : Rule) (a : Comparison) → (compare_of one two ≡ a) ↔ Due one two a
due = (compare.claims).exactly

-- By value: a value is the one that is answered exactly where it carries an answer that is due.
pub value : (one two : Rule) (o : Outcome) → (o ≡ outcome_of (compare_of one two)) ↔ (a : Comparison) × Due one two a × Carries a o
value = (compare.claims).value

-- By hand: equal rules, a changed one, two shortest texts, the empty text, an empty set at the start.
pub worked : Answered pairs
worked = (compare.claims).answered

-- ---- THE TEXT
-- From two checked rules with the same k: the shortest text that exactly one of them accepts, among the
-- shortest the first by symbols, and which of the two accepts it.
pub first : (one two : Rule) (which : Which) (w : List ℕ) → (compare_of one two ≡ apart which w) ↔ (Searched one two × FirstApart one two which w)
first one two which w = due one two (apart which w)

pub shortest : (one two : Rule) (which : Which) (w : List ℕ) → compare_of one two ≡ apart which w → (v : List ℕ) → Apart one two v
    → (length w < length v) ⊎ ((length w ≡ length v) × ((w ≡ v) ⊎ Lex w v))
shortest one two which w e v h =
    ⊎_elim
    (λ z. inr (ap length z, inl z))
    (⊎_elim (λ z. inl z) (λ z. inr (z.0, inr z.1)))
    (((first one two which w).0 e).1.no_sooner v h)

-- Exactly the named rule accepts the text, which is one of their symbols and has at most 511.
pub named : (one two : Rule) (which : Which) (w : List ℕ) → compare_of one two ≡ apart which w → Text one.k w × Only which one two w
named = (compare.claims).named

pub at_most : (one two : Rule) (which : Which) (w : List ℕ) → compare_of one two ≡ apart which w → length w ≤ longest_text
at_most = (compare.claims).short

-- By value with its length and zeros after it:
pub by_value : (one two : Rule) → Carries (compare_of one two) (outcome_of (compare_of one two))
by_value one two =
    let v = (value one two (outcome_of (compare_of one two))).0 refl in
    subst (λ (a : Comparison). Carries a (outcome_of (compare_of one two))) (sym ((due one two v.0).1 v.1)) v.2

-- ---- THE SAME
-- Or the same exactly when there is no such text:
pub no_text_lem : (one two : Rule) → (compare_of one two ≡ same) ↔ (Searched one two × Same one two)
no_text_lem one two = due one two same

-- the two are not refused, and their automata accept the same texts.
pub alike : (one two : Rule)
    → (compare_of one two ≡ same) ↔ (((x : ℕ) → compare_of one two ≡ refused x → ⊥) × Equivalent (automaton_of one) (automaton_of two))
alike = (compare.claims).alike

pub same_by_value : (one two : Rule) → compare_of one two ≡ same → outcome_of (compare_of one two) ≡ no_text values.same
same_by_value one two = ap outcome_of

-- The value tells the answer: the same and the empty text are told apart.
pub told : (one two : Rule) → comparison_in (outcome_of (compare_of one two)) ≡ compare_of one two
told = (compare.claims).told

-- The order of the rules matters for the name alone.
pub symmetric : (one two : Rule) → WellFormed one → WellFormed two → compare_of two one ≡ exchanged (compare_of one two)
symmetric = (compare.claims).symmetric

-- ---- THE SEARCH AND THE NUMBERS
-- The search is over pairs of reached sets, from the pair of initial sets, the empty set too. Which states
-- the set has that a text leads to in a rule:
pub set_reached : (r : Rule) → WellFormed r → (w : List ℕ) (p : ℕ) → p ∈ set_after r w ↔ Reached (automaton_of r) r.initials w p
set_reached r good w p = (automaton.claims).after_law r good r.initials p w good.initials_below

-- No number comes before the search exactly where both rules are checked and have the same k:
pub passed : (one two : Rule) → (pair_number one two ≡ none) ↔ (WellFormed one × WellFormed two × (one.k ≡ two.k))
passed = (compare.claims).passed

-- Refused, in this order: the first rule's 3, 4, 6, 8, then the second's, 36 for different k, 45 for too
-- many pairs, and with no other number.
pub numbers : (one two : Rule) → RefusedExactly one two
numbers = (compare.claims).numbers

pub as_installing : (r : Rule) (x : ℕ) → (x ≡ 3) ⊎ (x ≡ 4) ⊎ (x ≡ 6) ⊎ (x ≡ 8) → (rule_number r ≡ some x) ↔ (install_number r ≡ some x)
as_installing = installing.exactly

-- 45 is due exactly when there are 513 texts of which no two lead to the same pair and none is later, in
-- order of length and then symbols, than any text on which the rules differ;
pub forty_five : (one two : Rule)
    → (compare_of one two ≡ refused 45) ↔ (WellFormed one × WellFormed two × (one.k ≡ two.k) × ManyPairs one two)
forty_five one two = (numbers one two).number_45

-- else, which is where the two are searched,
pub not_refused : (one two : Rule) → ((x : ℕ) → compare_of one two ≡ refused x → ⊥) ↔ Searched one two
not_refused = (compare.claims).searched

-- the answer is the first difference, or the same.
pub else_told : (one two : Rule) → Searched one two
    → ((which : Which) × (w : List ℕ) × FirstApart one two which w × (compare_of one two ≡ apart which w))
    ⊎ (Same one two × (compare_of one two ≡ same))
else_told = (compare.claims).either

-- R-3: "a refused call .. carries zeros":
pub zeros : (one two : Rule) (x : ℕ) → compare_of one two ≡ refused x → outcome_of (compare_of one two) ≡ no_text (values.refused x)
zeros one two x = ap outcome_of

-- ---- THE FUNCTIONS
-- `compare` asks nothing, and may return what carries the answer that is due, and nothing else:
pub asks_nothing : (one two : Rule) → AsksCompare one two
asks_nothing one two = tt

pub allowed : (one two : Rule) (r : Result (code.Option declared.Apart) Refusal)
    → MayCompare one two r ↔ (a : Comparison) × Due one two a × Carries a (compare_outcome r)
allowed one two r = ((λ m. (value one two (compare_outcome r)).0 m.1), λ h. ((one, (two, tt)), (value one two (compare_outcome r)).1 h))

-- and so may the function that C links, in numbers of which nothing is lost.
pub asks_nothing_from_C : (one two : Rule) → AsksCompareC one two
asks_nothing_from_C one two = tt

pub from_C : (one two : Rule) (r : CompareNumbers) → MayCompareC one two r ↔ (r ≡ comparison_shown (outcome_of (compare_of one two)))
from_C one two r = ((λ m. m.1), λ e. ((one, (two, tt)), e))

pub told_to_C : (one two : Rule) (r : CompareNumbers) → MayCompareC one two r → comparison_in (comparison_read_back r) ≡ compare_of one two
told_to_C one two r m = ap (λ (n : CompareNumbers). comparison_in (comparison_read_back n)) ((from_C one two r).0 m) ∙ (c_compare.claims).told one two

-- Each of C's numbers in other words than the definition's: the kinds with what
-- stands beside them.
pub each_number : c_claims.Claims
each_number = c_compare.claims

-- ---- FROM A COMPARISON TO VERDICTS
-- Two boards with no empty place, one under each rule, on which the standing chunks without their idle
-- marks are the same text. Where the rules are the same, both verdicts are yes or neither is, and
-- both are no or neither is.
module _ (one two : Rule) (h g : List Call) (rule : rule_in h ≡ one) (other : rule_in g ≡ two) (board : board_in h ≡ true) (full : empties_in h ≡ 0)
    (board-too : board_in g ≡ true) (full-too : empties_in g ≡ 0) where
  yes_under_one : (verdict_in h ≡ yes_with (summed_in h)) ↔ Accepts (automaton_of one) (text_in h)
  yes_under_one = subst (λ (x : Rule). (verdict_in h ≡ yes_with (summed_in h)) ↔ Accepts (automaton_of x) (text_in h)) rule ((every_list h).verdict.accepts board full)

  yes_under_two : (verdict_in g ≡ yes_with (summed_in g)) ↔ Accepts (automaton_of two) (text_in g)
  yes_under_two = subst (λ (x : Rule). (verdict_in g ≡ yes_with (summed_in g)) ↔ Accepts (automaton_of x) (text_in g)) other ((every_list g).verdict.accepts board-too full-too)

  no_under_one : (verdict_in h ≡ no_with (summed_in h)) ↔ (Accepts (automaton_of one) (text_in h) → ⊥)
  no_under_one = subst (λ (x : Rule). (verdict_in h ≡ no_with (summed_in h)) ↔ (Accepts (automaton_of x) (text_in h) → ⊥)) rule ((every_list h).verdict.rejects board full)

  no_under_two : (verdict_in g ≡ no_with (summed_in g)) ↔ (Accepts (automaton_of two) (text_in g) → ⊥)
  no_under_two = subst (λ (x : Rule). (verdict_in g ≡ no_with (summed_in g)) ↔ (Accepts (automaton_of x) (text_in g) → ⊥)) other ((every_list g).verdict.rejects board-too full-too)

  pub judged_alike : compare_of one two ≡ same → text_in h ≡ text_in g
      → ((verdict_in h ≡ yes_with (summed_in h)) ↔ (verdict_in g ≡ yes_with (summed_in g)))
      × ((verdict_in h ≡ no_with (summed_in h)) ↔ (verdict_in g ≡ no_with (summed_in g)))
  judged_alike e is =
      let law : Accepts (automaton_of one) (text_in h) ↔ Accepts (automaton_of two) (text_in g) =
      subst (λ (w : List ℕ). Accepts (automaton_of one) (text_in h) ↔ Accepts (automaton_of two) w) is (((alike one two).0 e).1 (text_in h)) in (
        ((λ v. yes_under_two.1 (law.0 (yes_under_one.0 v))), λ v. yes_under_one.1 (law.1 (yes_under_two.0 v))),
        ((λ v. no_under_two.1 (λ a. no_under_one.0 v (law.1 a))), λ v. no_under_one.1 (λ a. no_under_two.0 v (law.0 a))),
      )

  -- Where the text is the one that is answered, it is yes under the rule that is named and no under
  -- the other.
  pub judged_apart : (which : Which) (w : List ℕ) → compare_of one two ≡ apart which w → text_in h ≡ w → text_in g ≡ w
      → (verdict_in (of_rule which h g) ≡ yes_with (summed_in (of_rule which h g)))
      × (verdict_in (of_rule (other_rule which) h g) ≡ no_with (summed_in (of_rule (other_rule which) h g)))
  judged_apart First w e is is-too =
      let only = (named one two First w e).1 in (
        yes_under_one.1 (subst (Accepts (automaton_of one)) (sym is) only.0),
        no_under_two.1 (λ a. only.1 (subst (Accepts (automaton_of two)) is-too a)),
      )
  judged_apart Second w e is is-too =
      let only = (named one two Second w e).1 in (
        yes_under_two.1 (subst (Accepts (automaton_of two)) (sym is-too) only.0),
        no_under_one.1 (λ a. only.1 (subst (Accepts (automaton_of one)) is a)),
      )
