-- R-9, A SAMPLE TRACE FOR A RULE, sentence by sentence. Under each stands the theorem that meets it; its
-- proof only cites the file that has it. To believe them, read the definitions that they name:
--
--   Wish                         accepted, rejected                      samples/src/lib.rt
--   Due r wish a                 the answer that is due, in words        samples/specs/Samples
--   Wished, First                a wished text; the first of them        samples/specs/Samples
--   set_after r w, ManySets r    the set that a text leads to; 513 sets  samples/specs/Samples
--   Answered cases               samples worked by hand                  samples/specs/Worked
--   NoLater, Sooner, Lex         the order of texts                      numbering/specs/Texts
--   Accepts, Run                 automata and their runs (000)           automaton/specs/Automaton
--   Reached a m w p              some member of m has a run over w to p  automaton/specs/Successor
--   rule_number r, WellFormed    3, 4, 6, 8 of a rule as a value (R-3)   rulecheck/specs/Checking, automaton/specs/Rules
--   Carries a o; outcome_of a    a value that carries the answer a       samples/specs/Values
--   sample_of r wish             the answer that the code gives          samples/specs/Search
--   RefusedExactly               number by number                        samples/specs/Claims
--   MaySample, MaySampleC        what the functions' contracts allow     requests/specs/SampleFunctions
--   wish_of x, sample_shown      C's numbers                             c_samples/specs/Numbers
--   text_for f                   what `rulesample` prints                sampletext/specs/SampleText
--   WorkedSamples                printed lines by hand                   sampletext/specs/Worked
--   verdict_in h, text_in h      what 01 says of a list of calls         histories/specs/History
--
-- r is any value, in which any numbers may stand. What sample_of does need not be believed: `due` says
-- that it is the answer of the words, and no other is. A proved function ends and stays within its
-- bounds. Assumes nothing.
-- All that they rest on stands in these files of specs/ (tests/believed):
--   base Answers, Conditions, Lists, Options, Totals; limits Limits; text Numerals; answers
--   Answers; masks Masks; automaton Automaton, Rules, Successor; rulecheck Checking, Worked;
--   ruleformat Format, Reader, Refusals, Worked; numbering Numbering, Texts; compositions
--   Relations; mappings Mappings, Packing; keys Kinds, Tables; subsets Sets, mirror/Singles;
--   searches Search, Texts; samples Claims, Samples, Search, Values, Worked; delegates Alike,
--   Claims, mirror/Classes; marks Marks; chunks Chunks; joins Joining; calls Calls, Replies;
--   histories History; fields Claims; sampletext SampleText, Worked; c_samples Claims, Numbers;
--   requests SampleFunctions.
use Rattle.base.specs.declared.Refusal.{Refusal}
use Rattle.searches.specs.declared.Spelled.{Spelled}
use Rattle.std.proofs.Common as code
use Rattle.std.proofs.Common.{Result}
use mathlib.Core.Path.{◌≡◌, refl, sym, ap, ◌∙◌, subst}
use mathlib.Core.Logic.{◌↔◌, ◌⊎◌, inl, inr, ⊎_elim}
use mathlib.Core.Bool.{true}
use mathlib.Core.List.{List}
use mathlib.Core.Option.{some}
use Prim.Native.Nat.{ℕ, ◌≤◌, ◌<◌}
use lib.ListN.{length}
use Rattle.masks.specs.Masks.{◌∈◌}
use Rattle.limits.specs.Limits.{most_sets}
use Rattle.automaton.specs.declared.Rule.{Rule}
use Rattle.automaton.specs.Automaton.{Accepts}
use Rattle.automaton.specs.Rules.{automaton_of, WellFormed}
use Rattle.automaton.specs.Successor.{Reached}
use Rattle.automaton.proofs.Claims as automaton
use Rattle.rulecheck.specs.Checking.{rule_number}
use Rattle.calls.specs.Replies.{yes_with, no_with}
use Rattle.calls.specs.Calls.{Call, install_number}
use Rattle.histories.specs.History.{rule_in, board_in, empties_in, summed_in, text_in, verdict_in}
use Rattle.numbering.specs.Texts.{Lex}
use Rattle.samples.specs.declared.Wish.{Wish}
use Rattle.samples.specs.declared.Wish.TheVariants as wish
use Rattle.samples.specs.Samples.{Wished, First, set_after, ManySets, Searched, Sample, text, nothing, refused, Due}
use Rattle.samples.specs.Values.{longest_sample, none_there, no_text, Outcome, sample_outcome, Carries, outcome_of, sample_in}
use Rattle.samples.specs.Values as values
use Rattle.samples.specs.Search.{sample_of}
use Rattle.samples.specs.Worked.{Answered}
use Rattle.samples.specs.Worked as worked
use Rattle.samples.specs.Claims.{RefusedExactly}
use Rattle.samples.proofs.Claims as samples
use Rattle.sampletext.specs.SampleText.{text_for, most_bytes}
use Rattle.sampletext.specs.Worked.{WorkedSamples}
use Rattle.sampletext.proofs.Claims as sampletext
use Rattle.c_samples.specs.declared.SampleNumbers.{SampleNumbers}
use Rattle.c_samples.specs.Numbers.{wish_of, sample_shown, sample_read_back}
use Rattle.c_samples.specs.Claims as c_claims
use Rattle.c_samples.proofs.ReadBack as c_samples
use Rattle.requests.specs.SampleFunctions.{AsksSample, MaySample, AsksSampleC, MaySampleC}
use Rattle.demands.proofs.Installing as installing
use Rattle.requests.proofs.Judged.{yes_exactly, no_exactly}

-- The limits that are named below:
pub limits : (longest_sample ≡ 511) × (most_sets ≡ 512)
limits = (refl, refl)

-- ---- THE ANSWER
-- "Owners want to see a trace that their rule accepts, or one that it rejects." "One argument should
-- serve both wishes": all below is one proof, in which the wish is a parameter. The whole request in one
-- line: the answer is the one that is due, and none but that is due.
pub due : (r : Rule) (wished : Wish) (a : Sample) → (sample_of r wished ≡ a) ↔ Due r wished a
due = (samples.claims).exactly

-- By value: a value is the one that is answered exactly where it carries an answer that is due.
pub value : (r : Rule) (wished : Wish) (o : Outcome) → (o ≡ outcome_of (sample_of r wished)) ↔ (a : Sample) × Due r wished a × Carries a o
value = (samples.claims).value

-- Samples worked by hand, of A and B of document 01 among others, are what stands beside them:
pub by_hand : Answered worked.samples
by_hand = (samples.claims).answered

-- ---- THE TEXT
-- "From a checked rule give .. the shortest such text .., and among the shortest the first by symbols":
pub first : (r : Rule) (wished : Wish) (w : List ℕ) → (sample_of r wished ≡ text w) ↔ (Searched r × First r wished w)
first r wished w = due r wished (text w)

pub shortest : (r : Rule) (wished : Wish) (w : List ℕ) → sample_of r wished ≡ text w → (v : List ℕ) → Wished r wished v
    → (length w < length v) ⊎ ((length w ≡ length v) × ((w ≡ v) ⊎ Lex w v))
shortest r wished w e v h =
    ⊎_elim
    (λ same. inr (ap length same, inl same))
    (⊎_elim (λ z. inl z) (λ z. inr (z.0, inr z.1)))
    (((first r wished w).0 e).1.no_sooner v h)

-- "(at most 511 bytes)":
pub at_most : (r : Rule) (wished : Wish) (w : List ℕ) → sample_of r wished ≡ text w → length w ≤ longest_sample
at_most = (samples.claims).short

-- "by value with its length and zeros after it":
pub by_value : (r : Rule) (wished : Wish) → Carries (sample_of r wished) (outcome_of (sample_of r wished))
by_value r wished =
    let v = (value r wished (outcome_of (sample_of r wished))).0 refl in
    subst (λ (a : Sample). Carries a (outcome_of (sample_of r wished))) (sym ((due r wished v.0).1 v.1)) v.2

-- "say none, with length 0 and zeros, exactly when there is none." (Where the rule is not refused: a
-- refusal comes first.)
pub no_text_lem : (r : Rule) (wished : Wish) → (sample_of r wished ≡ nothing) ↔ (Searched r × ((w : List ℕ) → Wished r wished w → ⊥))
no_text_lem r wished = due r wished nothing

pub none_by_value : (r : Rule) (wished : Wish) → sample_of r wished ≡ nothing → outcome_of (sample_of r wished) ≡ no_text none_there
none_by_value r wished = ap outcome_of

-- The value tells the answer: none and the empty text are told apart.
pub told : (r : Rule) (wished : Wish) → sample_in (outcome_of (sample_of r wished)) ≡ sample_of r wished
told = (samples.claims).told

-- ---- THE SEARCH AND THE NUMBERS
-- "The search is over sets reached from the set of initial states, the empty set too if reached." Which
-- states the set has that a text leads to:
pub set_reached : (r : Rule) → WellFormed r → (w : List ℕ) (p : ℕ) → p ∈ set_after r w ↔ Reached (automaton_of r) r.initials w p
set_reached r good w p = (automaton.claims).after_law r good r.initials p w good.initials_below

-- "It refuses with 35 when more than 512 of them exist." R-3: "A later call that takes a checked rule
-- first gives 3, 4, 6 or 8 as installing would":
pub numbers : (r : Rule) (wished : Wish) → RefusedExactly r wished
numbers = (samples.claims).numbers

pub thirty_five : (r : Rule) (wished : Wish) → (sample_of r wished ≡ refused 35) ↔ (WellFormed r × ManySets r)
thirty_five r wished = (numbers r wished).number_35

pub as_installing : (r : Rule) (x : ℕ) → (x ≡ 3) ⊎ (x ≡ 4) ⊎ (x ≡ 6) ⊎ (x ≡ 8) → (rule_number r ≡ some x) ↔ (install_number r ≡ some x)
as_installing = installing.exactly

-- R-3: "a refused call .. carries zeros":
pub zeros : (r : Rule) (wished : Wish) (x : ℕ) → sample_of r wished ≡ refused x → outcome_of (sample_of r wished) ≡ no_text (values.refused x)
zeros r wished x = ap outcome_of

-- ---- THE FUNCTIONS
-- `find_sample` asks nothing, and may return what carries the answer that is due, and nothing else:
pub asks_nothing : (r : Rule) (wished : Wish) → AsksSample r wished
asks_nothing r wished = tt

pub allowed : (r : Rule) (wished : Wish) (s : Result (code.Option Spelled) Refusal)
    → MaySample r wished s ↔ (a : Sample) × Due r wished a × Carries a (sample_outcome s)
allowed r wished s = ((λ m. (value r wished (sample_outcome s)).0 m.1), λ h. ((r, (wished, tt)), (value r wished (sample_outcome s)).1 h))

-- and so may the function that C links, in numbers of which nothing is lost. Every number names a wish:
-- 0 accepted, any other rejected.
pub asks_nothing_from_C : (x : ℕ) (r : Rule) → AsksSampleC x r
asks_nothing_from_C x r = tt

pub from_C : (x : ℕ) (r : Rule) (s : SampleNumbers) → MaySampleC x r s ↔ (s ≡ sample_shown (outcome_of (sample_of r (wish_of x))))
from_C x r s = ((λ m. m.1), λ e. ((x, (r, tt)), e))

pub told_to_C : (x : ℕ) (r : Rule) (s : SampleNumbers) → MaySampleC x r s → sample_in (sample_read_back s) ≡ sample_of r (wish_of x)
told_to_C x r s m = ap (λ (n : SampleNumbers). sample_in (sample_read_back n)) ((from_C x r s).0 m) ∙ (c_samples.claims).told r (wish_of x)

-- Each of C's numbers in other words than the definition's: the kinds with what
-- stands beside them.
pub each_number : c_claims.Claims
each_number = c_samples.claims

pub wishes : (wish_of 0 ≡ wish.Accepted) × ((x : ℕ) → 1 ≤ x → wish_of x ≡ wish.Rejected)
wishes = ((c_samples.claims).wish_0, (c_samples.claims).wish_other)

-- ---- FROM A SAMPLE TO A VERDICT
-- Where the rule of the judge is the rule, no place is empty, and the standing chunks without their idle
-- marks are the sample, the verdict is what was wished.
pub judged_yes : (r : Rule) (w : List ℕ) → sample_of r wish.Accepted ≡ text w
    → (h : List Call) → rule_in h ≡ r → board_in h ≡ true → empties_in h ≡ 0 → text_in h ≡ w → verdict_in h ≡ yes_with (summed_in h)
judged_yes r w e h rule board full is =
    let of-sample : Accepts (automaton_of r) w = ((first r wish.Accepted w).0 e).1.wished.judged in
    (yes_exactly h r (Accepts (automaton_of r) (text_in h)) rule ((λ a. a), λ a. a) board full).1
    (subst (Accepts (automaton_of r)) (sym is) of-sample)

pub judged_no : (r : Rule) (w : List ℕ) → sample_of r wish.Rejected ≡ text w
    → (h : List Call) → rule_in h ≡ r → board_in h ≡ true → empties_in h ≡ 0 → text_in h ≡ w → verdict_in h ≡ no_with (summed_in h)
judged_no r w e h rule board full is =
    let of-sample : Accepts (automaton_of r) w → ⊥ = ((first r wish.Rejected w).0 e).1.wished.judged in
    (no_exactly h r (Accepts (automaton_of r) (text_in h)) rule ((λ a. a), λ a. a) board full).1
    (λ a. of-sample (subst (Accepts (automaton_of r)) is a))

-- ---- FROM A FILE, BY THE PROGRAM
-- `rulesample` prints the text for its file (`print_samples` promises it), for which its buffer has room:
pub printed_fits : (f : List ℕ) → length (text_for f) ≤ most_bytes
printed_fits = (sampletext.claims).fits

-- In bytes, for rule A and for a rule of every text:
pub printed_by_hand : WorkedSamples
printed_by_hand = (sampletext.claims).worked
