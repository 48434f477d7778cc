-- A RULE REDUCED, sentence by sentence. Under each stands the theorem that meets it; its proof only
-- cites the file that has it. To believe them, read the definitions that they name:
--
--   reduce_of r                what reducing the value r answers           reducing/specs/Reducing
--   Stands r q x               x is the lowest reachable state alike to q  reducing/specs/Claims
--   Renumbered r n             what each number of n is, in words of r     reducing/specs/Claims
--   Reachable, Lean, Nothing   of states, of rules, of automata            reducing/specs/Claims
--   Becomes r n; Due r m       what r becomes; the answer that is due      reducing/specs/Claims
--   empty_rule k               one state, and all masks 0                  reducing/specs/Claims
--   reductions, Answered       rules reduced by hand, few_sets among them   reducing/specs/Worked
--   Live, Alike                of states (R-7)                             delegates/specs/Alike
--   install_number r           3, 4, 6, 8, 9 of an installation            calls/specs/Calls
--   rule_number r              3, 4, 6, 8 of a rule as a value (R-3)       rulecheck/specs/Checking
--   AllZero r                  every number of it is 0                     ruleformat/specs/Claims
--   Accepts, Equivalent        automata and their texts (000)              automaton/specs/Automaton
--   automaton_of r, WellFormed  of a rule                                   automaton/specs/Rules
--   MayReduce, MayReduceC      what the functions' contracts allow         requests/specs/ReduceFunction
--   reduce_shown               C's numbers                                 c_reduce/specs/Numbers
--   Filled h r ws              a filled board with the chunks ws           fillings/specs/Filled
--   verdict_in h, text_in h    what 01 says of a list of calls             histories/specs/History
--
-- r is any value, in which any numbers may stand. How the reduced rule is found
-- (reducing/specs/Reduced) need not be believed: `due` says that it is the answer of the words, and
-- no other is. It is not the smallest automaton that accepts these texts. A proved function ends
-- and stays within its bounds. Assumes nothing.
-- All that they rest on stands in these files of specs/ (tests/believed):
--   base Answers, Conditions, Lists, Options, Totals; limits Limits; flags Flags; masks Masks,
--   Turns; automaton Automaton, Rules, Successor; rulecheck Checking, Worked; ruleformat Claims,
--   Format, Reader, Refusals; numbering Numbering; subsets Sets, mirror/Singles; delegates Alike,
--   Claims, mirror/Classes; marks Marks; chunks Chunks; joins Joining; calls Calls, Replies;
--   histories History; reducing Claims, Reduced, Reducing, Worked; c_reduce Claims, Numbers;
--   requests ReduceFunction.
use Rattle.base.specs.declared.Refusal.{Refusal}
use Rattle.reducing.specs.declared.Reduced.{Reduced}
use Rattle.std.proofs.Common.{Result}
use mathlib.Core.Path.{◌≡◌, sym, ap, ◌∙◌, refl}
use mathlib.Core.Logic.{◌↔◌}
use mathlib.Core.Bool.{true, false, cond}
use mathlib.Core.List.{List}
use mathlib.Core.Option.{none, some}
use Prim.Native.Nat.{ℕ, ◌≤◌, ◌<◌}
use lib.ListN.{length}
use Rattle.limits.specs.Limits.{target_cells}
use Rattle.automaton.specs.declared.Rule.{Rule}
use Rattle.automaton.specs.Automaton.{Accepts, Equivalent}
use Rattle.automaton.specs.Rules.{automaton_of, WellFormed}
use Rattle.rulecheck.specs.Checking.{rule_number}
use Rattle.ruleformat.specs.Claims.{AllZero}
use Rattle.delegates.specs.Alike.{Alike, Live}
use Rattle.calls.specs.Replies.{yes_with, no_with}
use Rattle.calls.specs.Calls.{Call, install_number}
use Rattle.histories.specs.History.{rule_in, board_in, empties_in, summed_in, text_in, verdict_in}
use Rattle.histories.proofs.EveryList.{every_list}
use Rattle.fillings.specs.Filled.{Filled}
use Rattle.fillings.proofs.Boards as boards
use Rattle.reducing.specs.Reducing.{Reducing, refused_by, reduce_outcome, reduce_of}
use Rattle.reducing.specs.Worked.{few_sets, reductions, Answered}
use Rattle.reducing.specs.Claims.{Nothing, empty_rule, Reachable, Lean, Renumbered, Due, ReduceLaw}
use Rattle.reducing.proofs.Claims as reducing
use Rattle.c_reduce.specs.declared.ReduceNumbers.{ReduceNumbers}
use Rattle.c_reduce.specs.Numbers.{reduce_shown, reduce_read_back}
use Rattle.c_reduce.specs.Claims as c_claims
use Rattle.c_reduce.proofs.ReadBack as c_reduce
use Rattle.c_reduce.proofs.Asks as c_asks
use Rattle.requests.specs.ReduceFunction.{AsksReduce, MayReduce, AsksReduceC, MayReduceC}
use Rattle.requests.proofs.Judged.{yes_exactly, no_exactly}

-- The limits that are named below:
pub limits : target_cells ≡ 512
limits = refl

-- ---- THE CALL
-- All that is promised of it, in one place; the sentences below are its parts:
pub reducing_law : (r : Rule) → ReduceLaw r
reducing_law = (reducing.claims).reducing

-- The whole in one line: the answer is the one that is due, and none but that is due;
pub due : (r : Rule) (m : Reducing) → (reduce_of r ≡ m) ↔ Due r m
due = (reducing.claims).exactly

-- and rules worked by hand come to what stands beside them:
pub by_hand : Answered reductions
by_hand = (reducing.claims).answered

module _ (r : Rule) (e : (reduce_of r).number ≡ none) where
  -- "From a checked rule a checked rule": with the same symbols, and no more states.
  pub checked : rule_number (reduce_of r).rule ≡ none
  checked = (reducing_law r).checked e

  pub symbols : (reduce_of r).rule.k ≡ r.k
  symbols = (reducing_law r).symbols e

  pub fewer : (reduce_of r).rule.n ≤ r.n
  fewer = (reducing_law r).fewer e

  -- "that accepts exactly the same texts":
  pub language : Equivalent (automaton_of (reduce_of r).rule) (automaton_of r)
  language = (reducing_law r).language e

  -- "in which every state can be reached from an initial state, every state is live (R-7), and no
  -- two states are alike" (where some text is accepted):
  module _ (w : List ℕ) (accepted : Accepts (automaton_of r) w) where
    pub all_reached : (p : ℕ) → p < (reduce_of r).rule.n → Reachable (reduce_of r).rule p
    all_reached = ((reducing_law r).lean e w accepted).reached

    pub all_live : (p : ℕ) → p < (reduce_of r).rule.n → Live (automaton_of (reduce_of r).rule) p
    all_live = ((reducing_law r).lean e w accepted).live

    pub none_alike : (p q : ℕ) → p < (reduce_of r).rule.n → q < (reduce_of r).rule.n
        → Alike (automaton_of (reduce_of r).rule) p q → p ≡ q
    none_alike = ((reducing_law r).lean e w accepted).distinct

    -- "unreachable and dead states go, and each state is represented by the lowest reachable state
    -- alike to it; states keep their order and are numbered from 0":
    pub renumbered : Renumbered r (reduce_of r).rule
    renumbered = (reducing_law r).renumbered e w accepted

    -- The words leave nothing open: any well-formed value of the type that is so made is the one
    -- answered.
    pub only : (n : Rule) → length n.targets ≡ target_cells → WellFormed n → n.k ≡ r.k
        → ((p : ℕ) → p < n.n → Reachable n p) → Renumbered r n → n ≡ (reduce_of r).rule
    only = (reducing_law r).only e w accepted

  -- "A rule that accepts nothing becomes one state with all masks 0 and the same k":
  pub nothing : Nothing (automaton_of r) → (reduce_of r).rule ≡ empty_rule r.k
  nothing = (reducing_law r).nothing e

  -- "a rule that is so already is its own reduction":
  pub lean_stays : length r.targets ≡ target_cells → Lean r → (reduce_of r).rule ≡ r
  lean_stays long lean = (reducing_law r).lean_stays long lean e

  -- "reducing twice is reducing once where the second is not refused, and only 9 can refuse it":
  pub again : (reduce_of (reduce_of r).rule).number ≡ none → (reduce_of (reduce_of r).rule).rule ≡ (reduce_of r).rule
  again = (reducing_law r).again e

  pub again_number : (x : ℕ) → (reduce_of (reduce_of r).rule).number ≡ some x → x ≡ 9
  again_number = (reducing_law r).again_number e

  -- In one equation: reduced once more the whole answer stays where the reduced rule installs, and
  -- it is refused with 9 where it does not.
  pub again_whole : reduce_of (reduce_of r).rule ≡ cond (reduce_of r).installs (reduce_of r) (refused_by 9)
  again_whole = (reducing.claims).again_whole r e

-- The second is not refused exactly when the first says that its rule installs.
pub again_exactly : (r : Rule) → ((reduce_of (reduce_of r).rule).number ≡ none) ↔ ((reduce_of r).installs ≡ true)
again_exactly r = (reducing_law r).again_exactly

-- It is a value of the type, whatever is answered.
pub cells : (r : Rule) → length (reduce_of r).rule.targets ≡ target_cells
cells r = (reducing_law r).cells

-- ---- THE NUMBERS
-- "Refused as installing is (3, 4, 6, 8, 9), zeros then":
pub number : (r : Rule) → (reduce_of r).number ≡ install_number r
number r = (reducing_law r).number

pub zeros : (r : Rule) (x : ℕ) → (reduce_of r).number ≡ some x → AllZero (reduce_of r).rule × ((reduce_of r).installs ≡ false)
zeros r = (reducing_law r).zeros

-- "a reduced rule can have more sets than the rule it came from, so that installing may refuse it
-- with 9": here is one that installs, and its reduction does not.
pub more_sets : (install_number few_sets ≡ none) × (install_number (reduce_of few_sets).rule ≡ some 9)
more_sets = (reducing.claims).more_sets

-- "The answer carries whether the result installs":
pub installs_exactly : (r : Rule) → ((reduce_of r).installs ≡ true) ↔ (install_number (reduce_of r).rule ≡ none)
installs_exactly r = (reducing_law r).installs_exactly

-- ---- THE FUNCTIONS
-- `reduce` asks nothing, and may return that answer and no other:
pub asks_nothing : (r : Rule) → AsksReduce r
asks_nothing r = tt

pub allowed : (r : Rule) (m : Result Reduced Refusal) → MayReduce r m ↔ (reduce_outcome m ≡ reduce_of r)
allowed r m = ((λ x. x.1), λ e. ((r, tt), e))

pub allowed_due : (r : Rule) (m : Result Reduced Refusal) → MayReduce r m ↔ Due r (reduce_outcome m)
allowed_due r m =
    let law = due r (reduce_outcome m) in ((λ x. law.0 (sym ((allowed r m).0 x))), λ d. (allowed r m).1 (sym (law.1 d)))

-- and so may the function that C links, in numbers of which nothing is lost.
pub asks_nothing_from_C : (r : Rule) → AsksReduceC r
asks_nothing_from_C = c_asks.reduce_asks_nothing

pub from_C : (r : Rule) (m : ReduceNumbers) → MayReduceC r m ↔ (m ≡ reduce_shown (reduce_of r))
from_C r m = ((λ x. x.1), λ e. ((r, tt), e))

pub read_back : (r : Rule) (m : ReduceNumbers) → MayReduceC r m → reduce_read_back m ≡ reduce_of r
read_back r m x = ap reduce_read_back ((from_C r m).0 x) ∙ (c_reduce.claims).reduce_read_back_lem (reduce_of r)

-- Each of C's numbers in other words than the definition's: accepted and refused,
-- installs, the rule.
pub each_number : c_claims.Claims
each_number = c_reduce.claims

-- ---- FROM A RULE TO A VERDICT
-- Where the rule of the judge is the reduced one, and no place is empty, the verdict is yes exactly
-- when the rule that it came from accepts the standing chunks, without their idle marks, and no
-- exactly when it does not.
module _ (r : Rule) (e : (reduce_of r).number ≡ none) (h : List Call) where
  module _ (rule : rule_in h ≡ (reduce_of r).rule) where
    pub judged_yes : board_in h ≡ true → empties_in h ≡ 0 → (verdict_in h ≡ yes_with (summed_in h)) ↔ Accepts (automaton_of r) (text_in h)
    judged_yes = yes_exactly h (reduce_of r).rule (Accepts (automaton_of r) (text_in h)) rule (language r e (text_in h))

    pub judged_no : board_in h ≡ true → empties_in h ≡ 0 → (verdict_in h ≡ no_with (summed_in h)) ↔ (Accepts (automaton_of r) (text_in h) → ⊥)
    judged_no = no_exactly h (reduce_of r).rule (Accepts (automaton_of r) (text_in h)) rule (language r e (text_in h))

  -- So a judge with the reduced rule and a judge with the rule itself, whose boards are filled with
  -- the same chunks, give the same yes or no.
  module _ (g : List Call) (ws : List (List ℕ)) (before : Filled g r ws) (after : Filled h (reduce_of r).rule ws) where
    same_text : text_in h ≡ text_in g
    same_text = boards.text_is h (reduce_of r).rule ws after ∙ sym (boards.text_is g r ws before)

    same_accepted : Accepts (automaton_of (rule_in g)) (text_in g) ↔ Accepts (automaton_of r) (text_in h)
    same_accepted = rw (boards.rule_is g r ws before, same_text) ((λ a. a), λ a. a)

    pub judged : ((verdict_in h ≡ yes_with (summed_in h)) ↔ (verdict_in g ≡ yes_with (summed_in g)))
        × ((verdict_in h ≡ no_with (summed_in h)) ↔ (verdict_in g ≡ no_with (summed_in g)))
    judged =
        let rule = boards.rule_is h (reduce_of r).rule ws after in
        let full = boards.none_missing h (reduce_of r).rule ws after in
        let full-g = boards.none_missing g r ws before in
        let y = judged_yes rule after.board full in
        let n = judged_no rule after.board full in
        let yg = (every_list g).verdict.accepts before.board full-g in
        let ng = (every_list g).verdict.rejects before.board full-g in (
          ((λ a. yg.1 (same_accepted.1 (y.0 a))), λ a. y.1 (same_accepted.0 (yg.0 a))),
          ((λ a. ng.1 (λ t. n.0 a (same_accepted.0 t))), λ a. n.1 (λ t. ng.0 a (same_accepted.1 t))),
        )
