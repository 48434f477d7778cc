-- EVERY LIST OF CALLS, BY THE CALLS ALONE. The demands' page (Demands.antt) speaks of calls and
-- their replies. Here the same stands by definitions that go through a list of calls and compute
-- what is answered, which the pages of the requests use too; and then in other words, so that none
-- of them rests on its own text. To believe the theorems, read the definitions that they name:
--
--   step_of j c                     the outcome of a call on any state   calls/specs/mirror/Steps
--   judge_after h, replies_to h    the outcome of a list of calls       histories/specs/Claims
--   standing, verdict_in, answer_of  what 01 says of a list alone         histories/specs/History
--   AcceptedExactly, Refused-..    which calls, with which number       histories/specs/Conditions
--   VerdictSays, Says              what the reply to a verdict says     histories/specs/Claims
--   CountAt, SumIs                 counts by runs of the automaton      transcripts/specs/Runs
--   LastRule .. LastStanding       by the last accepted call of a kind  histories/specs/Last
--   EmptyPlaces                    the empty places, call by call       histories/specs/Empties
--   Agree                          calls alone, and with their replies  transcripts/specs/Agreement
--
-- A list of calls has the last call first. Assumes nothing.
-- All that they rest on stands in these files of specs/ (tests/believed):
--   base Answers, Conditions, Lists, Options, Totals; limits Limits; masks Masks; automaton
--   Automaton, Rules, Successor; rulecheck Checking, Claims; ruleformat Format, Language, Reader,
--   Refusals; numbering Claims, Numbering, Order, Texts; subsets Claims, Sets, mirror/Singles;
--   delegates Alike, Claims, mirror/Classes; build mirror/Building; marks Marks; walks
--   mirror/Steps; chunks Chunks, Counting, mirror/Walks; board Boards; joins Joining; calls
--   Calls, Claims, Replies, mirror/Steps; executions Executions, Last; histories Claims,
--   Conditions, Empties, Functions, History, Last, Method; transcripts Agreement, Runs, Standing;
--   capi Numbers; demands Functions.
use mathlib.Core.Path.{◌≡◌, ◌∙◌}
use mathlib.Core.Logic.{◌↔◌, ◌⊎◌, ⊎_elim}
use mathlib.Core.Bool.{true, false}
use mathlib.Core.List.{List, ◌∷◌, ◌++◌}
use mathlib.Core.Option.{none, some}
use Prim.Native.Nat.{ℕ, ◌*◌, ◌≤◌, ◌<◌}
use lib.ListN.{length, get_or, get_elem?}
use Rattle.limits.specs.Limits.{most_states, most_places}
use Rattle.base.specs.Options.{is_none}
use Rattle.masks.specs.Masks.{shares}
use Rattle.executions.specs.Executions.{Execution}
use Rattle.executions.proofs.Executions.{execution_law}
use Rattle.automaton.specs.declared.Rule.{Rule}
use Rattle.automaton.specs.Automaton.{Accepts}
use Rattle.automaton.specs.Rules.{automaton_of}
use Rattle.automaton.specs.Successor.{after}
use Rattle.automaton.proofs.Claims as automaton
use Rattle.ruleformat.specs.Reader.{rule_of}
use Rattle.ruleformat.specs.Language.{automaton_in}
use Rattle.delegates.specs.Claims.{starts_in}
use Rattle.build.specs.mirror.Building.{built_of}
use Rattle.board.specs.Boards.{held, is_empty, summed_count}
use Rattle.calls.specs.declared.Judge.{Judge}
use Rattle.calls.specs.Replies.{waiting, yes_with, no_with, refused_with, Reply}
use Rattle.calls.specs.Calls.{Call, install_number, load_number, asks_verdict}
use Rattle.calls.specs.mirror.Steps.{is_yes, step_of}
use Rattle.histories.specs.History.{rule_there, rule_in, board_in, standing, standing_text, end_at, count_at, empties_in, summed_in, yes_in, text_in, verdict_in, answers_to}
use Rattle.histories.specs.Method.{Method}
use Rattle.histories.specs.Last.{LastRule, LastBoard, LastRevision, LastStanding}
use Rattle.histories.specs.Empties.{EmptyPlaces}
use Rattle.histories.specs.Conditions.{AcceptedExactly, RefusedExactly, NoOtherNumber}
use Rattle.histories.specs.Claims.{judge_machine, judge_after, replies_to, BuiltBy, VerdictSays, EveryList}
use Rattle.histories.specs.Functions.{judge_library}
use Rattle.histories.proofs.EveryList.{every_list}
use Rattle.histories.proofs.Method as histories_method
use Rattle.histories.proofs.VerdictSays as histories_verdict
use Rattle.histories.proofs.Refinement.{judge_meets}
use Rattle.histories.proofs.Steps.{accepted_rule}
use Rattle.histories.proofs.Last as histories_last
use Rattle.histories.proofs.Empties as histories_empties
use Rattle.histories.proofs.NoOther as histories_numbers
use Rattle.transcripts.specs.Standing.{standing_after}
use Rattle.transcripts.specs.Agreement.{Agree}
use Rattle.transcripts.specs.Runs.{CountAt, SumIs}
use Rattle.transcripts.proofs.Agree as transcripts_agree
use Rattle.transcripts.proofs.Places as transcripts_places
use Rattle.demands.specs.Functions.{c_library}
use Rattle.demands.proofs.Functions.{c_meets}

-- ---- THE OUTCOME OF EACH CALL

pub any_call : (j : Judge) (c : Call) (a : Reply) (next : Judge) → judge_library.May j c a next ↔ (a ≡ (step_of j c).reply) × (next ≡ (step_of j c).state)
any_call = judge_meets.steps

pub any_call_from_C : (j : Judge) (c : Call) (a : Reply) (next : Judge) → c_library.May j c a next ↔ (a ≡ (step_of j c).reply) × (next ≡ (step_of j c).state)
any_call_from_C = c_meets.steps

-- The rule that is there after a list of calls is that of the last accepted load or installation,
-- built; and its sets, next-set table and merged starts are those of source document 004, numbered
-- in document 01's order: of the automaton of each rule that an installation accepts. (A state from
-- which no final state can be reached has no delegate and is no start: document 02, R-7, narrows
-- 004's so.)
pub built : (h : List Call) → BuiltBy (rule_there h) (judge_after h)
built h = (every_list h).after.rule

pub method : (r : Rule) → install_number r ≡ none → Method (automaton_of r) (built_of r)
method = histories_method.method

-- From the bytes of a file that a load accepts: what is built of it is what 004 gives to the
-- automaton in the bytes. (That the rule which is read accepts the same texts stands in `reading`.)
pub method_of_bytes : (f : List ℕ) → load_number f ≡ none → Method (automaton_in f) (built_of (rule_of f))
method_of_bytes = histories_method.method_bytes

-- A text is accepted exactly when the automaton of source document 000 has an accepting run over
-- it.
pub acceptance : (r : Rule) → install_number r ≡ none → (w : List ℕ)
    → Accepts (automaton_of r) w ↔ (shares (after r.targets r.initials w) r.finals ≡ true)
acceptance r e = (automaton.claims).accepts_law r (accepted_rule r e).0

-- ---- EVERY LIST

-- For every list of calls from a fresh judge, of loads, installations, openings, deliveries,
-- withdrawals and verdicts in any order, refused ones included: what the functions' own contracts
-- allow is what the definitions give, and that they allow. Of the judge's functions, and of those
-- that C links:
pub every_execution : (h : List Call) (rs : List Reply) (j : Judge) → Execution judge_library h rs j ↔ (rs ≡ replies_to h) × (j ≡ judge_after h)
every_execution = execution_law judge_library judge_machine judge_meets

pub every_execution_from_C : (h : List Call) (rs : List Reply) (j : Judge) → Execution c_library h rs j ↔ (rs ≡ replies_to h) × (j ≡ judge_after h)
every_execution_from_C = execution_law c_library judge_machine c_meets

-- One claim over the whole list: each reply, the verdict's among them, is document 01's after the
-- calls before it, and all that `EveryList` says holds; the sentences below are its parts.
pub one_claim : (h : List Call) (rs : List Reply) (j : Judge) → Execution judge_library h rs j ⊎ Execution c_library h rs j
    → (rs ≡ answers_to h) × (j ≡ judge_after h) × EveryList h
one_claim h rs j e =
    let is = ⊎_elim (every_execution h rs j).0 (every_execution_from_C h rs j).0 e in
    (is.0 ∙ (every_list h).correct, is.1, every_list h)

-- What the reply to a verdict says, wherever in the list it is asked: yes exactly when the rule
-- that is there has an accepting run over the standing chunks, no exactly when it has none, both
-- with no place empty and with the sum of the counts; waiting with the number of empty places; 21
-- without a board. (A list has the last call first, so before this reply are as many as calls were
-- made after it; `get_elem?`, of the kit's lists, counts from 0 and is none behind the end.)
pub verdict_says : (later earlier : List Call) (rs : List Reply) (j : Judge)
    → Execution judge_library (later ++ (asks_verdict ∷ earlier)) rs j ⊎ Execution c_library (later ++ (asks_verdict ∷ earlier)) rs j
    → (a : Reply) × (get_elem? rs (length later) ≡ some a) × VerdictSays earlier a
verdict_says later earlier rs j e =
    let h = later ++ (asks_verdict ∷ earlier) in
    histories_verdict.verdict_at later earlier rs (⊎_elim (every_execution h rs j).0 (every_execution_from_C h rs j).0 e).0

-- A call is accepted exactly when none of its conditions holds, and refused with a number exactly
-- when that one is the first that holds (the verdict's 21 follows below).
pub accepted_exactly : (h : List Call) → AcceptedExactly h
accepted_exactly h = (every_list h).accepted_exactly

pub refused_exactly : (h : List Call) → RefusedExactly h
refused_exactly h = (every_list h).refused_exactly

-- The verdict, by the list alone: refused with 21 unless the last accepted load, installation or
-- opening is an opening;
pub refused_21 : (h : List Call) → (verdict_in h ≡ refused_with 21) ↔ (board_in h ≡ false)
refused_21 h = (every_list h).verdict.none_there

-- waiting with the number of empty places exactly when one is empty;
pub waits : (h : List Call) (e : ℕ) → (verdict_in h ≡ waiting e) ↔ ((board_in h ≡ true) × (0 < e) × (e ≡ empties_in h))
waits h = (every_list h).verdict.waits

-- else yes exactly when the last accepted rule has an accepting run over the standing chunks
-- without their idle marks, joined by place, and no when it has none.
pub accepted_texts : (h : List Call) → board_in h ≡ true → empties_in h ≡ 0
    → (verdict_in h ≡ yes_with (summed_in h)) ↔ Accepts (automaton_of (rule_in h)) (text_in h)
accepted_texts h = (every_list h).verdict.accepts

pub rejected_texts : (h : List Call) → board_in h ≡ true → empties_in h ≡ 0
    → (verdict_in h ≡ no_with (summed_in h)) ↔ (Accepts (automaton_of (rule_in h)) (text_in h) → ⊥)
rejected_texts h = (every_list h).verdict.rejects

-- Each place with a standing chunk holds the end sets and the count that 01 gives to its text, any
-- other none:
pub empties : (h : List Call) (p : ℕ) → p < most_places → is_empty (judge_after h).board p ≡ is_none (standing h p)
empties h = (every_list h).after.empty

pub ends : (h : List Call) (p q : ℕ) → p < most_places → q < most_states → held (judge_after h).board p q ≡ end_at h p q
ends h = (every_list h).after.ends

pub counts : (h : List Call) (p : ℕ) → p < most_places → get_or (judge_after h).board.counts p 0 ≡ count_at h p
counts h = (every_list h).after.counts

-- the yes or no is 01's join of them;
pub joined : (h : List Call) → board_in h ≡ true → is_yes (judge_after h) ≡ yes_in h
joined h = (every_list h).after.joined

-- the count is the sum of those counts and at most merged starts times bytes of the text, as at
-- each place.
pub summed : (h : List Call) → summed_count (judge_after h).board ≡ summed_in h
summed h = (every_list h).after.summed

pub most : (h : List Call) → summed_in h ≤ (starts_in (rule_in h)).startcount * length (text_in h)
most h = (every_list h).verdict.most

pub place_most : (h : List Call) (p : ℕ) → count_at h p ≤ (starts_in (rule_in h)).startcount * length (standing_text (standing h p))
place_most h = (every_list h).verdict.place_most

-- ---- THE LIST IN OTHER WORDS
-- What stands after calls with document 01's replies, by which the demands' page goes, is what the
-- calls alone say.
pub with_replies : (h : List Call) → Agree h (standing_after h (answers_to h))
with_replies = transcripts_agree.agree

-- What the sentences above say of a list of calls goes through it call by call
-- (histories/specs/History). So that none rests on that alone, each is said once more, by the list
-- cut at one call, or call by call where it counts. "A rule is there once a load was accepted, and
-- it is that of the last accepted load", in whose part an installation stands (document 02, R-3):
pub last_rule : (h : List Call) → LastRule h
last_rule = histories_last.last_rule

-- "A board is there exactly when the last accepted call among loads and openings is an opening";
-- its places are that opening's, and it has none exactly when it is not there.
pub last_board : (h : List Call) → LastBoard h
last_board = histories_last.last_board

-- "the last accepted one there": the last revision is that of the delivery last accepted at the
-- place since opening, "even after a withdrawal" (document 02, R-11).
pub last_revision_lem : (h : List Call) → LastRevision h
last_revision_lem = histories_last.last_revision_lem

-- "A standing chunk is the one last accepted at its place since that opening, and not withdrawn
-- since."
pub last_standing : (h : List Call) → LastStanding h
last_standing = histories_last.last_standing

-- The number of empty places: none at first and where a rule goes in, N after an opening of N, "all
-- empty"; one less where a delivery fills one, one more where a withdrawal empties one, else the
-- same.
pub empty_places_lem : EmptyPlaces empties_in
empty_places_lem = histories_empties.empty_places_lem

-- In other words, by runs of the automaton: how many triples there are of a place, a state that its
-- standing chunk is run from, at place 0 the delegates of initial states, and a byte up to which a
-- run from that state goes over the text; and at each place how many pairs;
pub transitions : (h : List Call) (p : ℕ) → CountAt (standing_after h (answers_to h)) p (count_at h p)
transitions h = transcripts_places.count_at_lem h (standing_after h (answers_to h)) (transcripts_agree.agree h)

pub summed_transitions : (h : List Call) (c : ℕ) → SumIs (standing_after h (answers_to h)) c ↔ (c ≡ summed_in h)
summed_transitions h = transcripts_places.sum_law h (standing_after h (answers_to h)) (transcripts_agree.agree h)

-- "A number is returned when its condition holds and no earlier one does, never otherwise": an
-- installation gives 3, 4, 6, 8, 9, a load 1 to 9, an opening 20, 10, a delivery 21, 11, 12, 13,
-- 22, a withdrawal 21, 11, 23, a verdict 21, and no other.
pub no_other_number : (h : List Call) → NoOtherNumber h
no_other_number = histories_numbers.no_other_number
