-- WHERE A TRACE IS LOST, sentence by sentence. Under each stands the theorem that meets it; its proof
-- only cites the file that has it. To believe them, read the definitions that they name:
--
--   Continued a w                some text can follow w so that a accepts    live/specs/Continued
--   text_up_to h m               the text of the first m places              losses/specs/Losses
--   Lost h p, Open h m           lost at place p; open with m places         losses/specs/Losses
--   Diagnosed h f                the finding f is the list's                 losses/specs/Losses
--   AllElsewhere p cs            calls that leave rule, board and the        losses/specs/Losses
--                                places 0 .. p alone
--   AcceptsNothing h             the rule accepts no text                    losses/specs/Losses
--   text_with, StuckAfter,       the first bytes of a chunk; lost after b    losses/specs/Spots
--   Spotted h p w s              of them; s is the list's
--   RefusedSo h p w              number by number                            losses/specs/Spots
--   locate_conditions            21, 11, 12, 13, 23                          locating/specs/Locating
--   Finding, Spot                what is answered                            diagnoses/specs/Diagnosing,
--                                                                            locating/specs/Locating
--   text_of w, idle_mark         a chunk without its idle marks (R-5)        marks/specs/Marks
--   rule_in h, standing h p, ..  what 01 says of a list of calls             histories/specs/History
--   Accepts                      automata and their runs (000)               automaton/specs/Automaton
--   MayDiagnose, MayLocate       what the functions' contracts allow         losses/specs/Functions
--   MayDiagnoseC, MayLocateC     the same of those that C links              requests/specs/LossFunctions
--   diagnosis_shown, spot_shown  C's numbers                                 c_losses/specs/Numbers
--
-- h is any list of calls, the last one first. diagnosis_of and spot_of, what the code does on any state,
-- need not be believed: `diagnosed` and `spotted` say that after every list they are the words', and
-- no other answer is. A proved function ends and stays within its bounds. Assumes nothing.
-- All that they rest on stands in these files of specs/ (tests/believed):
--   base Answers, Conditions, Lists, Options, Totals; limits Limits; masks Masks; automaton
--   Automaton, Rules, Successor; rulecheck Checking; ruleformat Format, Reader, Refusals;
--   numbering Numbering; subsets Sets, mirror/Singles; delegates Alike, Claims, mirror/Classes;
--   live Continued; build mirror/Building; marks Marks; walks mirror/Steps; chunks Chunks,
--   mirror/Walks; board Boards; joins Joining; calls Calls, Replies, mirror/Steps; diagnoses
--   Diagnosing; locating Locating, Positions, mirror/Pruning; executions Executions; histories
--   Claims, Functions, History; losses Functions, Losses, Spots; c_losses Numbers; requests
--   LossFunctions.
use mathlib.Core.Path.{◌≡◌, refl, sym, ap, ◌∙◌}
use mathlib.Core.Logic.{◌↔◌, ◌⊎◌}
use mathlib.Core.Bool.{true, false}
use mathlib.Core.List.{List, [], ◌++◌}
use mathlib.Core.Option.{none, some}
use Prim.Native.Nat.{ℕ, suc, ◌≤◌, ◌<◌}
use contract.Lifetimes.{Lfts}
use denote.Ref.{Bor}
use lib.Dec.{eqb}
use lib.ListN.{length, get_or}
use Rattle.std.proofs.Common.{Result}
use Rattle.std.proofs.Common as code
use Rattle.base.specs.declared.Refusal.{Refusal}
use Rattle.base.specs.Conditions.{FirstHolds, any_below}
use Rattle.base.specs.Options.{is_none}
use Rattle.base.proofs.Conditions.{first_law}
use Rattle.limits.specs.Limits.{most_places, longest_chunk}
use Rattle.marks.specs.Marks.{idle_mark}
use Rattle.automaton.specs.Rules.{automaton_of}
use Rattle.executions.specs.Executions.{Execution}
use Rattle.calls.specs.declared.Judge.{Judge}
use Rattle.calls.specs.Replies.{Reply, Reported, judged, yes_with, no_with}
use Rattle.calls.specs.Calls.{Call, asks_verdict}
use Rattle.calls.specs.mirror.Steps.{step_of}
use Rattle.histories.specs.History.{rule_in, board_in, places_in, standing, verdict_in}
use Rattle.histories.specs.Claims.{judge_after}
use Rattle.histories.specs.Functions.{judge_library}
use Rattle.histories.proofs.Refinement.{lent}
use Rattle.demands.specs.Functions.{c_library}
use Rattle.demands.proofs.Histories.{every_execution_from_C}
use Rattle.diagnoses.specs.declared.Diagnosis.{Diagnosis}
use Rattle.diagnoses.specs.Diagnosing.{Finding, refused_as, lost_at, open_with, diagnosis_means, diagnosis_of}
use Rattle.locating.specs.Locating.{Spot, refused_for, stuck_after, nowhere, located_means, locate_conditions, spot_of}
use Rattle.live.specs.Continued.{Continued}
use Rattle.losses.specs.Losses.{Lost, Open, Diagnosed, AcceptsNothing, AllElsewhere}
use Rattle.losses.specs.Spots.{spot_number, text_with, StuckAfter, Spotted, RefusedSo}
use Rattle.losses.specs.Functions.{MayDiagnose, MayLocate}
use Rattle.diagnoses.proofs.diagnose.Reads as diagnose_reads
use Rattle.locating.proofs.locate.Reads as locate_reads
use Rattle.losses.proofs.Claims as losses
use Rattle.losses.proofs.Spots as spots
use Rattle.losses.proofs.Functions as functions
use Rattle.c_losses.specs.declared.DiagnosisNumbers.{DiagnosisNumbers}
use Rattle.c_losses.specs.declared.SpotNumbers.{SpotNumbers}
use Rattle.c_losses.specs.Numbers.{diagnosis_shown, spot_shown, diagnosis_read_back, spot_read_back}
use Rattle.c_losses.specs.Numbers as c_claims
use Rattle.c_losses.proofs.Numbers as numbers_of_C
use Rattle.c_losses.proofs.Asks as asks_of_C
use Rattle.requests.specs.LossFunctions.{AsksDiagnoseC, MayDiagnoseC, AsksLocateC, MayLocateC}

-- The limits that are named below:
pub limits : (idle_mark ≡ 255) × (most_places ≡ 64) × (longest_chunk ≡ 65536)
limits = (refl, refl, refl)

-- ---- AT WHICH PLACE
-- Over every list of calls the diagnosis is exactly the one that the list says, and there is only one.
pub diagnosed : (h : List Call) (f : Finding) → (diagnosis_of (judge_after h) ≡ f) ↔ Diagnosed h f
diagnosed = (losses.claims).diagnosis

pub only_finding : (h : List Call) (f g : Finding) → Diagnosed h f → Diagnosed h g → f ≡ g
only_finding h f g x y = sym ((diagnosed h f).1 x) ∙ (diagnosed h g).1 y

-- Lost at place p: the places 0 .. p are filled, nothing can follow their text, and something can follow
-- that of fewer of them. It is known before the later places are filled.
pub lost_at_lem : (h : List Call) (p : ℕ) → (diagnosis_of (judge_after h) ≡ lost_at p) ↔ Lost h p
lost_at_lem h p = diagnosed h (lost_at p)

-- Open with m places: not lost, and m places are filled before the first empty one.
pub open_with_lem : (h : List Call) (m : ℕ) → (diagnosis_of (judge_after h) ≡ open_with m) ↔ Open h m
open_with_lem h m = diagnosed h (open_with m)

-- 21 exactly without a board.
pub without_board : (h : List Call) → (diagnosis_of (judge_after h) ≡ refused_as 21) ↔ (board_in h ≡ false)
without_board h = ((λ e. ((diagnosed h (refused_as 21)).0 e).0), λ b. (diagnosed h (refused_as 21)).1 (b, refl))

-- A lost trace stays lost, at the same place, whatever comes above it: after any list by which the same
-- rule is there and the same chunks stand at the places 0 .. p, so after any calls that leave them alone.
pub stays : (h g : List Call) (p : ℕ) → Lost h p → rule_in g ≡ rule_in h → ((i : ℕ) → i ≤ p → standing g i ≡ standing h i) → Lost g p
stays = (losses.claims).stays

pub stays_on : (h cs : List Call) (p : ℕ) → Lost h p → AllElsewhere p cs → Lost (cs ++ h) p
stays_on = (losses.claims).stays_on

-- No verdict on it is yes.
pub no_yes : (h : List Call) (p c : ℕ) → Lost h p → verdict_in h ≡ yes_with c → ⊥
no_yes = (losses.claims).no_yes

pub no_yes_answered : (h : List Call) (p c : ℕ) (r : Reported) → Lost h p → (step_of (judge_after h) asks_verdict).reply ≡ judged r
    → r.verdict ≡ yes_with c → ⊥
no_yes_answered = (losses.claims).no_yes_reply

-- A no is explained: lost at some place, or open with all places. A yes is open with all places.
pub explained : (h : List Call) (c : ℕ) → verdict_in h ≡ no_with c → ((p : ℕ) × Lost h p) ⊎ Open h (places_in h)
explained = (losses.claims).explained

pub yes_open : (h : List Call) (c : ℕ) → verdict_in h ≡ yes_with c → Open h (places_in h)
yes_open = (losses.claims).yes_open

-- Of a rule that accepts nothing an empty prefix is open with 0 places; a chunk at place 0 loses it.
pub nothing_open : (h : List Call) → AcceptsNothing h → board_in h ≡ true → standing h 0 ≡ none → diagnosis_of (judge_after h) ≡ open_with 0
nothing_open h n b e = (open_with_lem h 0).1 ((losses.claims).nothing_open h n b e)

pub nothing_lost : (h : List Call) (w : List ℕ) → AcceptsNothing h → standing h 0 ≡ some w → diagnosis_of (judge_after h) ≡ lost_at 0
nothing_lost h w n e = (lost_at_lem h 0).1 ((losses.claims).nothing_lost h w n e)

-- ---- AT WHICH BYTE
-- Over every list of calls, every place and every chunk the answer is exactly what the list says, and
-- there is only one.
pub spotted : (h : List Call) (p : ℕ) (w : List ℕ) (s : Spot) → (spot_of (judge_after h) p w ≡ s) ↔ Spotted h p w s
spotted = (spots.spot_claims).spot

pub only_spot : (h : List Call) (p : ℕ) (w : List ℕ) (s u : Spot) → Spotted h p w s → Spotted h p w u → s ≡ u
only_spot h p w s u x y = sym ((spotted h p w s).1 x) ∙ (spotted h p w u).1 y

module _ (h : List Call) (p : ℕ) (w : List ℕ) where
  -- Refused with the number of the first condition that holds, of 21, 11, 12, 13 and 23 in this order;
  pub first_number : (x : ℕ) → (spot_of (judge_after h) p w ≡ refused_for x)
      ↔ FirstHolds x (locate_conditions (eqb (places_in h) 0) (places_in h) p w (rule_in h).k (any_below (λ i. is_none (standing h i)) p))
  first_number x =
      let law = first_law x (locate_conditions (eqb (places_in h) 0) (places_in h) p w (rule_in h).k (any_below (λ i. is_none (standing h i)) p)) in
      ((λ e. law.0 ((spotted h p w (refused_for x)).0 e)), λ e. (spotted h p w (refused_for x)).1 (law.1 e))

  -- number by number: 23 where a place before p is empty.
  pub numbers : RefusedSo h p w
  numbers = (spots.spot_claims).numbers h p w

  -- Lost after b bytes: nothing can follow the text before the place with that of the first b bytes of
  -- the chunk, and something can follow fewer. Idle marks count: b is a position in the chunk.
  pub lost_after_lem : (b : ℕ) → (spot_of (judge_after h) p w ≡ stuck_after b) ↔ ((spot_number h p w ≡ none) × StuckAfter h p w b)
  lost_after_lem b = spotted h p w (stuck_after b)

  -- Nowhere: something can follow however many of its bytes.
  pub lost_nowhere : (spot_of (judge_after h) p w ≡ nowhere)
      ↔ ((spot_number h p w ≡ none) × ((i : ℕ) → i ≤ length w → Continued (automaton_of (rule_in h)) (text_with h p w i)))
  lost_nowhere = spotted h p w nowhere

  -- The byte by which it is lost is no idle mark.
  pub no-mark : (b : ℕ) → StuckAfter h p w (suc b) → get_or w b 0 ≡ idle_mark → ⊥
  no-mark = (spots.spot_claims).no-mark h p w

  -- Of the chunk that stands where the trace is lost it says a number of bytes, which is above 0 at any
  -- place but the first. At place 0 it is 0 where the rule accepts nothing (`nothing_spot`).
  pub of_the_lost_chunk : Lost h p → standing h p ≡ some w
      → (b : ℕ) × (spot_of (judge_after h) p w ≡ stuck_after b) × StuckAfter h p w b × (0 < p → 0 < b)
  of_the_lost_chunk = (spots.spot_claims).lost_spot h p w

  -- Of a rule that accepts nothing it is lost after 0 bytes, at place 0 as at any other.
  pub nothing_spot : AcceptsNothing h → spot_number h p w ≡ none → spot_of (judge_after h) p w ≡ stuck_after 0
  nothing_spot = (spots.spot_claims).nothing_spot h p w

-- ---- THE FUNCTIONS
-- `diagnose` and `locate`, on a judge that a list of calls through the judge's functions left, say what
-- the list says, and ask nothing.
pub diagnose_says : (h : List Call) (rs : List Reply) (j : Judge) → Execution judge_library h rs j
    → (r : Result Diagnosis Refusal) → MayDiagnose j r → Diagnosed h (diagnosis_means r)
diagnose_says = (functions.function_claims).diagnose

pub locate_says : (h : List Call) (rs : List Reply) (j : Judge) → Execution judge_library h rs j
    → (p : ℕ) (w : List ℕ) (r : Result (code.Option ℕ) Refusal) → MayLocate j p w r → Spotted h p w (located_means r)
locate_says = (functions.function_claims).locate

pub diagnose_asks : (j : Judge) → diagnose_reads.Asked tt (j, tt)
diagnose_asks = (functions.function_claims).diagnose_asks

pub locate_asks : (κs : Lfts 1) (j : Judge) (p : ℕ) (c : Bor (List ℕ)) → locate_reads.Asked κs (j, (p, (c, tt)))
locate_asks = (functions.function_claims).locate_asks

-- Those that C links fix every number of their results, on any judge whatever,
pub any_diagnosis : (j : Judge) (r : DiagnosisNumbers) → MayDiagnoseC j r ↔ (r ≡ diagnosis_shown (diagnosis_of j))
any_diagnosis j r = ((λ m. m.1), λ e. ((j, tt), e))

pub any_spot : (j : Judge) (p : ℕ) (w : List ℕ) (r : SpotNumbers) → MayLocateC j p w r ↔ (r ≡ spot_shown (spot_of j p w))
any_spot j p w r = (
  (λ m. m.4 ∙ ap (λ (x : List ℕ). spot_shown (spot_of j p x)) m.3),
  λ e. (([], tt), lent w, (j, (p, (lent w, tt))), refl, e),
)

-- and ask nothing.
pub asks_nothing : (j : Judge) → AsksDiagnoseC j
asks_nothing = asks_of_C.diagnose_asks_nothing

pub locate_asks_nothing : (κs : Lfts 1) (j : Judge) (p : ℕ) (c : Bor (List ℕ)) → AsksLocateC κs j p c
locate_asks_nothing = asks_of_C.locate_asks_nothing

-- So on a judge that a list of calls through C's functions left their numbers are those of what the list
-- says,
module _ (h : List Call) (rs : List Reply) (j : Judge) (ran : Execution c_library h rs j) where
  pub diagnosis_from_C : (r : DiagnosisNumbers) → MayDiagnoseC j r → (f : Finding) × Diagnosed h f × (r ≡ diagnosis_shown f)
  diagnosis_from_C r m =
      let is = ((every_execution_from_C h rs j).0 ran).1 in
      (diagnosis_of (judge_after h), (diagnosed h (diagnosis_of (judge_after h))).0 refl, (any_diagnosis j r).0 m ∙ ap (λ (k : Judge). diagnosis_shown (diagnosis_of k)) is)

  pub spot_from_C : (p : ℕ) (w : List ℕ) (r : SpotNumbers) → MayLocateC j p w r → (s : Spot) × Spotted h p w s × (r ≡ spot_shown s)
  spot_from_C p w r m =
      let is = ((every_execution_from_C h rs j).0 ran).1 in
      (spot_of (judge_after h) p w, (spotted h p w (spot_of (judge_after h) p w)).0 refl, (any_spot j p w r).0 m ∙ ap (λ (k : Judge). spot_shown (spot_of k p w)) is)

-- and of them nothing is lost.
pub finding_back : (f : Finding) → diagnosis_read_back (diagnosis_shown f) ≡ f
finding_back = (numbers_of_C.claims).diagnosis_back

pub spot_back : (s : Spot) → spot_read_back (spot_shown s) ≡ s
spot_back = (numbers_of_C.claims).spot_back

-- Each of C's numbers in other words than the definition's: the kinds with what stands
-- beside them.
pub each_number : c_claims.Claims
each_number = numbers_of_C.claims
