-- THE THREE DEMANDS. Under each sentence stands the theorem that meets it; its proof only cites
-- the file that has it. Libraries are the functions of crates/judge and those that C links.
-- To believe the theorems, read the definitions that they name. They speak of automata, of calls
-- and of the replies to them; beside these only of the fields in which the judge keeps what stands
-- (the structs Judge, Built and Board), and of what contracts ask and allow:
--
--   1  Asks, May; judge_library   what contracts ask and allow          histories/specs/Functions
--      c_library                 the same of the functions for C       demands/specs/Functions
--      Execution l h rs j        calls made through functions          executions/specs/Executions
--      Call; Reply, refusal_of   01's calls; its answers               calls/specs/Calls, Replies
--   2  Automaton, Run, Accepts   automata and their runs (000)         automaton/specs/Automaton
--      Source, automaton_by      a rule as a value, or a file's bytes  transcripts/specs/Standing
--      automaton_of, automaton_in  the automaton of each                 automaton/, ruleformat/specs
--      Method, TooMany           sets, order, table, delegates, M      histories/specs/Method
--      Alike, Live, Delegate     merged starts, of live states (R-7)   delegates/specs/Alike
--   3  standing_after h rs        what stands after calls with replies  transcripts/specs/Standing
--      Started, LookedUp, SumIs  running it, by runs of the automaton  transcripts/specs/Runs
--      Answers, Right            01's answer to a call; to every call  transcripts/specs/Answers
--      file_conditions           1 to 8; of a value rule_conditions     ruleformat/, rulecheck/specs
--      open_conditions ..        10 to 13 and 20 to 23                 calls/specs/Calls
--      FirstHolds, NoneHolds     the first condition that holds; none  base/specs/Conditions
--      Holds; VerdictIs          what the judge holds; the verdict     transcripts/specs/Claims
--
-- The same by the calls alone, and in other words: Histories.antt; every number that C is given:
-- FromC.antt; the requests that change the judge: Requests.antt; table P: TableP.antt; text:
-- Texts.antt. A list has the last call first. A proved function ends and stays within its bounds.
-- Assumes nothing.
-- All that they rest on stands in these files of specs/ (tests/believed):
--   base Answers, Conditions, Lists, Options, Totals; limits Limits; masks Masks; automaton
--   Automaton, Rules; rulecheck Checking; ruleformat Format, Language, Refusals; numbering
--   Claims, Order, Texts; delegates Alike; marks Marks; chunks Chunks, Counting; board Boards;
--   calls Calls, Claims, Replies; executions Executions; histories Claims, Functions, History,
--   Method; transcripts Answers, Claims, Runs, Standing; capi Numbers; demands Functions.
use mathlib.Core.Path.{◌≡◌, refl, sym, ◌∙◌}
use mathlib.Core.Logic.{◌↔◌, ◌⊎◌, ⊎_elim}
use mathlib.Core.List.{List, [], ◌∷◌, ◌++◌}
use mathlib.Core.Option.{none, some}
use Prim.Native.Nat.{ℕ}
use lib.ListN.{length}
use Rattle.limits.specs.Limits.{most_states, no_delegate, most_symbols, most_sets, empty_set, most_places, longest_chunk, longest_file}
use Rattle.marks.specs.Marks.{idle_mark, text_of}
use Rattle.automaton.specs.Automaton.{Automaton, Accepts}
use Rattle.ruleformat.specs.Language.{automaton_in}
use Rattle.build.specs.declared.Built.{Built}
use Rattle.executions.specs.Executions.{Execution}
use Rattle.executions.proofs.Executions.{execution_law}
use Rattle.calls.specs.declared.Judge.{Judge}
use Rattle.calls.specs.Replies.{Reply, yes_with, refusal_of}
use Rattle.calls.specs.Calls.{Call, loads, opens, delivers, asks_verdict}
use Rattle.calls.specs.mirror.Steps.{step_of}
use Rattle.calls.proofs.Refusing as refusing
use Rattle.histories.specs.Method.{Method}
use Rattle.histories.specs.Functions.{judge_library}
use Rattle.histories.specs.Claims.{judge_machine, judge_after, replies_to, Says}
use Rattle.histories.proofs.Refinement.{judge_meets}
use Rattle.transcripts.specs.Standing.{Source, automaton_by, Standing, standing_after}
use Rattle.transcripts.specs.Answers.{Right}
use Rattle.transcripts.specs.Claims.{SameBuilt, Holds, SameBoard, VerdictIs, OneAnswer}
use Rattle.transcripts.proofs.OneMethod as transcripts_method
use Rattle.transcripts.proofs.OneText as transcripts_text
use Rattle.transcripts.proofs.OneBoard as transcripts_board
use Rattle.transcripts.proofs.Fixed as transcripts_fixed
use Rattle.transcripts.proofs.EveryList as transcripts_list
use Rattle.transcripts.proofs.Verdict as transcripts_verdict
use Rattle.demands.specs.Functions.{c_library}
use Rattle.demands.proofs.Functions.{c_meets}

-- ---- 1. ANY INPUT
-- "Any bytes, any place number, any state: the call ends with the result": no function asks
-- anything before it is called, nor does the one that makes a fresh judge.
pub asks_nothing : (j : Judge) (c : Call) → judge_library.Asks j c × c_library.Asks j c × judge_library.NewAsks × c_library.NewAsks
asks_nothing j c = (judge_meets.asks_nothing j c, c_meets.asks_nothing j c, judge_meets.new_asks_nothing, c_meets.new_asks_nothing)

-- Each call has one outcome on each state, the same through the judge's functions and through
-- C's, and there is one fresh judge. (Which outcome it is after a list of calls says demand 3; on
-- any other state document 01 leaves the answer free.)
pub one_outcome : (j : Judge) (c : Call)
    → (a : Reply) × (next : Judge)
    × ((b : Reply) (k : Judge) → (judge_library.May j c b k ↔ (b ≡ a) × (k ≡ next)) × (c_library.May j c b k ↔ (b ≡ a) × (k ≡ next)))
one_outcome j c = ((step_of j c).reply, (step_of j c).state, λ b k. (judge_meets.steps j c b k, c_meets.steps j c b k))

pub one_fresh : (j k : Judge) → judge_library.Begins j ⊎ c_library.Begins j → judge_library.Begins k ⊎ c_library.Begins k → j ≡ k
one_fresh j k x y =
    ⊎_elim (judge_meets.begins j).0 (c_meets.begins j).0 x ∙ sym (⊎_elim (judge_meets.begins k).0 (c_meets.begins k).0 y)

-- "a refusal carries its number and leaves the state and each lent buffer unchanged". (Which
-- number: demand 3. A file and a chunk are lent as `&[u8]`, which no function can write.)
pub refusals : (j : Judge) (c : Call) (a : Reply) (next : Judge) → judge_library.May j c a next ⊎ c_library.May j c a next
    → (x : ℕ) → refusal_of a ≡ some x → next ≡ j
refusals j c a next m x e =
    let is = ⊎_elim (judge_meets.steps j c a next).0 (c_meets.steps j c a next).0 m in
    is.1 ∙ refusing.unchanged j c x (rw is.0 at e)

-- ---- 2. THE METHOD
-- "The sets, next-set table and merged starts are those of source document 004", numbered in
-- document 01's order: of the automaton that the last accepted load or installation brought, as
-- the judge holds it after any list of calls. (A part of `every_list`.)
pub method : (h : List Call) (rs : List Reply) (j : Judge) → Execution judge_library h rs j ⊎ Execution c_library h rs j
    → (x : Source) → (standing_after h rs).rule ≡ some x → Method (automaton_by x) j.built
method h rs j e =
    (⊎_elim (transcripts_list.every_list_right judge_library judge_meets h rs j) (transcripts_list.every_list_right c_library c_meets h rs j) e).1.method

-- The automaton fixes them.
pub one_method : (a : Automaton) (b c : Built) → Method a b → Method a c → SameBuilt a.k b c
one_method = transcripts_method.one_method

-- "a text is accepted exactly when the automaton of source document 000 has an accepting run over
-- it": a file loaded, a board of one place, a chunk there, and the verdict asked. Of any number of
-- chunks: `verdict_says`.
pub accepted_text : (f : List ℕ) (v : ℕ) (w : List ℕ) (a d o r : Reply) (j : Judge)
    → Execution judge_library (asks_verdict ∷ delivers 0 v w ∷ opens 1 ∷ loads f ∷ []) (a ∷ d ∷ o ∷ r ∷ []) j
    ⊎ Execution c_library (asks_verdict ∷ delivers 0 v w ∷ opens 1 ∷ loads f ∷ []) (a ∷ d ∷ o ∷ r ∷ []) j
    → refusal_of r ≡ none → refusal_of d ≡ none
    → ((c : ℕ) × Says a (yes_with c)) ↔ Accepts (automaton_in f) (text_of w)
accepted_text f v w a d o r j e =
    ⊎_elim (transcripts_text.one_text f v w judge_library judge_meets a d o r j) (transcripts_text.one_text f v w c_library c_meets a d o r j) e

-- ---- 3. EVERY LIST OF CALLS
-- "For every list of calls from a fresh judge, refused ones included": one claim over the whole
-- list. Each reply is document 01's by what stood before its call, and the judge that is left holds
-- what stands: the end sets, counts, lengths and revisions, their join, and the bound of the count.
-- (Of the judge at an earlier moment the same is said of the calls up to there.)
pub every_list : (h : List Call) (rs : List Reply) (j : Judge) → Execution judge_library h rs j ⊎ Execution c_library h rs j
    → Right h rs × Holds (standing_after h rs) j
every_list h rs j e =
    ⊎_elim (transcripts_list.every_list_right judge_library judge_meets h rs j) (transcripts_list.every_list_right c_library c_meets h rs j) e

-- Every list of calls can be made, with the same replies and the same judge through both.
pub some_execution : (h : List Call) → (rs : List Reply) × (j : Judge) × Execution judge_library h rs j × Execution c_library h rs j
some_execution h = (
  replies_to h,
  judge_after h,
  (execution_law judge_library judge_machine judge_meets h (replies_to h) (judge_after h)).1 (refl, refl),
  (execution_law c_library judge_machine c_meets h (replies_to h) (judge_after h)).1 (refl, refl),
)

-- The words fix every reply: no other replies are right. And they fix what each place holds.
pub one_answer : OneAnswer
one_answer = transcripts_fixed.one_answer

pub one_board : (s : Standing) (j k : Judge) → Holds s j → Holds s k → SameBoard j k
one_board = transcripts_board.one_board

-- "the verdict asked after it is 01's: refused with 21 unless the last accepted load or opening is
-- an opening; waiting with the number of empty places exactly when one is empty; else yes exactly
-- when the last accepted rule has an accepting run over the standing chunks joined by place", with
-- the sum of the counts. Wherever in the list it is asked: `earlier` are the calls before it,
-- `older` their replies.
pub verdict_says : (later earlier : List Call) (rs : List Reply) (j : Judge)
    → Execution judge_library (later ++ (asks_verdict ∷ earlier)) rs j ⊎ Execution c_library (later ++ (asks_verdict ∷ earlier)) rs j
    → (a : Reply) × (newer older : List Reply) × (rs ≡ newer ++ (a ∷ older)) × (length older ≡ length earlier) × VerdictIs (standing_after earlier older) a
verdict_says later earlier rs j e =
    ⊎_elim (transcripts_verdict.verdict_at judge_library judge_meets later earlier rs j)
    (transcripts_verdict.verdict_at c_library c_meets later earlier rs j)
    e

-- ---- THE LIMITS that the definitions name
-- "n, 1 to 32"; "k, 1 to 16"; "At most 512 sets"; "a board of N places, 1 to 64"; "A chunk is 0 to
-- 65,536 bytes"; "A file has at most 32,906 bytes"; an idle mark is 255 (document 02, R-5). What
-- stands for no set and for no delegate is the first number that none has.
pub limits : (most_states ≡ 32) × (most_symbols ≡ 16) × (most_sets ≡ 512) × (most_places ≡ 64) × (longest_chunk ≡ 65536)
    × (longest_file ≡ 32906) × (idle_mark ≡ 255) × (empty_set ≡ 512) × (no_delegate ≡ 32)
limits = (refl, refl, refl, refl, refl, refl, refl, refl, refl)
