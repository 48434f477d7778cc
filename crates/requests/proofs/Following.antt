-- A TRACE IN ORDER, followed chunk by chunk at any length, for every checked rule, sentence by sentence.
-- Under each stands the theorem that meets it; its proof only cites the file that has it. To believe
-- them, read the definitions that they name:
--
--   Outcome, follow_of r m w     the answer, every field; what following a chunk answers   follow/specs/Following
--   follow_number r w            the number with which it is refused       follow/specs/Following
--   handed r m ws                the set that the caller hands on          follow/specs/Claims
--   taken_text r ws              the text of the chunks not refused        follow/specs/Claims
--   Continued a v                some text continues v to an accepted one  live/specs/Continued
--   AcceptsIn, CanEnd            the same from any set                     live/specs/Continued
--   One, LostAt                  what a call answers from any set          follow/specs/Claims
--   Cut; RefusedExactly          a chunk cut in two; number by number      follow/specs/Claims
--   cases, Answered              chunks worked by hand                     follow/specs/Worked
--   prepare_of r, follow_by_of f m w, no_follower  a rule that is checked once   follow/specs/Following
--   chunk_number k w             12, 13                                    chunks/specs/Taking
--   Accepts, Run; Text           automata and their runs (000)             automaton/specs/Automaton
--   Reached a m w p              some member of m has a run over w to p    automaton/specs/Successor
--   Live a q                     some text is accepted from state q        delegates/specs/Alike
--   WellFormed r; rule_number r  3, 4, 6, 8 of a rule as a value (R-3)     automaton/specs/Rules, rulecheck/specs/Checking
--   text_of w                     a chunk without its idle marks            marks/specs/Marks
--   Filled h r ws                a filled board with the chunks ws         fillings/specs/Filled
--   verdict_in h, answer_of       what 01 says of a list of calls           histories/specs/History
--   MayFollowC, MayPrepareC, MayFollowByC   what the contracts of C's functions allow   requests/specs/FollowFunctions
--   follow_shown, prepare_shown  C's numbers                               c_follow/specs/Numbers
--
-- r is any value, in which any numbers may stand, m any set, and a chunk any bytes. How the mask of live
-- states is found (live/specs/Live) need not be believed, nor how a walk goes fast (follow/specs/mirror/Cache).
-- A proved function ends and stays within its bounds. Assumes nothing.
-- All that they rest on stands in these files of specs/ (tests/believed):
--   base Conditions, Lists, Options, Totals; limits Limits; flags Flags; masks Masks, Turns;
--   automaton Automaton, Rules, Successor; rulecheck Checking, Worked; ruleformat Format, Reader,
--   Refusals; numbering Numbering; subsets Sets, mirror/Singles; delegates Alike, Claims,
--   mirror/Classes; live Continued, Live; marks Marks; chunks Chunks, Taking; follow Claims,
--   Following, Worked; joins Joining; calls Calls, Replies; histories History; fillings Filled;
--   followverdict Boards; c_follow Claims, Numbers; requests FollowFunctions.
use mathlib.Core.Path.{◌≡◌, ap, ◌∙◌, refl}
use mathlib.Core.Logic.{◌↔◌, ◌⊎◌}
use mathlib.Core.Bool.{true, false}
use mathlib.Core.List.{List, [], ◌∷◌, ◌++◌, map, flatten}
use mathlib.Core.Option.{none, some}
use Prim.Native.Nat.{ℕ, suc, ◌-◌, ◌≤◌, ◌<◌}
use lib.ListN.{length, get_or, take}
use contract.Lifetimes.{Lfts}
use denote.Ref.{Bor}
use Rattle.limits.specs.Limits.{most_places, longest_chunk}
use Rattle.masks.specs.Masks.{◌∈◌}
use Rattle.marks.specs.Marks.{idle_mark, text_of}
use Rattle.automaton.specs.declared.Rule.{Rule}
use Rattle.automaton.specs.Automaton.{Accepts}
use Rattle.automaton.specs.Rules.{automaton_of, WellFormed}
use Rattle.automaton.specs.Successor.{Reached}
use Rattle.rulecheck.specs.Checking.{rule_number}
use Rattle.delegates.specs.Alike.{Live}
use Rattle.chunks.specs.Taking.{chunk_number}
use Rattle.calls.specs.Replies.{yes_with, no_with, refused}
use Rattle.calls.specs.Calls.{Call, delivers, install_number}
use Rattle.histories.specs.History.{rule_there, board_in, places_in, empties_in, summed_in, verdict_in, answer_of}
use Rattle.fillings.specs.Filled.{Filled}
use Rattle.live.specs.Continued.{Continued}
use Rattle.follow.specs.declared.Follower.{Follower}
use Rattle.follow.specs.Following.{follow_number, Outcome, refused_follow, walk_of, follow_of, no_follower, prepare_of, follow_by_of}
use Rattle.follow.specs.Claims.{RefusedExactly, One, handed, taken_text, Cut}
use Rattle.follow.specs.Worked.{cases, Answered}
use Rattle.follow.proofs.Claims as follow
use Rattle.followverdict.specs.Boards.{FollowsAll}
use Rattle.followverdict.proofs.Claims as followverdict
use Rattle.c_follow.specs.declared.FollowNumbers.{FollowNumbers}
use Rattle.c_follow.specs.declared.FollowerNumbers.{FollowerNumbers}
use Rattle.c_follow.specs.Numbers.{follow_shown, follow_read_back, prepare_shown, prepare_read_back}
use Rattle.c_follow.specs.Claims as c_claims
use Rattle.c_follow.proofs.ReadBack as c_follow
use Rattle.requests.specs.FollowFunctions.{AsksFollowC, MayFollowC, AsksFollowerC, MayPrepareC, AsksByC, MayFollowByC}
use Rattle.requests.proofs.FollowFunctions as functions

-- The limits that are named below:
pub limits : (most_places ≡ 64) × (longest_chunk ≡ 65536) × (idle_mark ≡ 255)
limits = (refl, refl, refl)

-- ---- FROM CHUNK TO CHUNK
-- A caller begins with the rule's initial states, hands each answer's set in with the next chunk, and
-- keeps the set that it had where a chunk is refused. ws are the chunks so far, oldest first, w is the
-- next one, which is not refused:
module _ (r : Rule) (ws : List (List ℕ)) (w : List ℕ) where
  abbrev answer : Outcome
  answer = follow_of r (handed r r.initials ws) w

  module _ (ok : follow_number r w ≡ none) where
    -- The set is the automaton's reached set over the joined text.
    pub set_reached : (p : ℕ) → p ∈ answer.set ↔ Reached (automaton_of r) r.initials (taken_text r ws ++ text_of w) p
    set_reached = ((follow.claims).followed r ws w ok).set

    -- It has a final state exactly where an accepting run over that text exists.
    pub final : (answer.ends ≡ true) ↔ Accepts (automaton_of r) (taken_text r ws ++ text_of w)
    final = ((follow.claims).followed r ws w ok).ends

    -- The trace is lost at b exactly where the text up to b bytes of this chunk, idle marks counted, has
    -- no accepted continuation, and every shorter one has.
    pub lost_at_lem : (b : ℕ) → (answer.lost ≡ some b)
        ↔ ((b ≤ length w) × (Continued (automaton_of r) (taken_text r ws ++ text_of (take b w)) → ⊥) × ((i : ℕ) → i < b → Continued (automaton_of r) (taken_text r ws ++ text_of (take i w))))
    lost_at_lem = ((follow.claims).followed r ws w ok).lost

    pub not_lost : (answer.lost ≡ none) ↔ Continued (automaton_of r) (taken_text r ws ++ text_of w)
    not_lost = ((follow.claims).followed r ws w ok).not_lost

    -- Where a byte of this chunk loses it, every shorter text has one from the very beginning:
    pub every_shorter : (b : ℕ) → answer.lost ≡ some (suc b) → (v u : List ℕ) → taken_text r ws ++ text_of (take b w) ≡ v ++ u → Continued (automaton_of r) v
    every_shorter = ((follow.claims).followed r ws w ok).every_shorter

    -- that byte is no idle mark, and is not among the symbols that are expected.
    pub culprit : (b : ℕ) → answer.lost ≡ some (suc b) → (b < length w) × (get_or w b 0 ≡ idle_mark → ⊥) × (get_or w b 0 ∈ answer.expected → ⊥)
    culprit = ((follow.claims).one r (handed r r.initials ws) w ok).culprit

    -- Symbol s is expected exactly where some text that begins with s continues the text before that byte
    -- to an accepted one; where the trace is not lost, the text so far.
    pub expected_there : (b s : ℕ) → answer.lost ≡ some b → s ∈ answer.expected ↔ Continued (automaton_of r) (taken_text r ws ++ (text_of (take (b - 1) w) ++ (s ∷ [])))
    expected_there = ((follow.claims).followed r ws w ok).expected_there

    pub expected_next : (s : ℕ) → answer.lost ≡ none → s ∈ answer.expected ↔ Continued (automaton_of r) (taken_text r ws ++ (text_of w ++ (s ∷ [])))
    expected_next = ((follow.claims).followed r ws w ok).expected_next

    -- The trace could have ended before that byte exactly where the text up to there is accepted; where
    -- it is not lost, the text so far; never where it was lost before the chunk.
    pub could_end_there : (b : ℕ) → answer.lost ≡ some (suc b) → (answer.complete ≡ true) ↔ Accepts (automaton_of r) (taken_text r ws ++ text_of (take b w))
    could_end_there = ((follow.claims).followed r ws w ok).complete_there

    pub can_end_here : answer.lost ≡ none → (answer.complete ≡ true) ↔ Accepts (automaton_of r) (taken_text r ws ++ text_of w)
    can_end_here = ((follow.claims).followed r ws w ok).complete_here

    pub could_end_never : answer.lost ≡ some 0 → answer.complete ≡ false
    could_end_never = ((follow.claims).one r (handed r r.initials ws) w ok).complete_never

    -- Where nothing is expected, though it was not lost before, the trace could only have ended there, or
    -- can only end here.
    pub only_end : (b : ℕ) → answer.lost ≡ some (suc b) → answer.expected ≡ 0 → Accepts (automaton_of r) (taken_text r ws ++ text_of (take b w))
    only_end b e z =
        let from-there = (follow.claims).one r (handed r r.initials ws) w ok in
        (could_end_there b e).0 ((from-there.complete_there b e).1 (from-there.only_end b e z))

    pub only_end_next : answer.lost ≡ none → answer.expected ≡ 0 → Accepts (automaton_of r) (taken_text r ws ++ text_of w)
    only_end_next e z = final.0 (((follow.claims).one r (handed r r.initials ws) w ok).only_end_next e z)

-- The joined text: where no chunk is refused, the chunks' texts, which are without their idle marks.
pub joined : (r : Rule) (ws : List (List ℕ)) → ((i : ℕ) → i < length ws → follow_number r (get_or ws i []) ≡ none) → taken_text r ws ≡ flatten (map text_of ws)
joined = (follow.claims).all_taken

-- Lost is for good: whatever comes after, the next chunk is lost at its byte 0, nothing is expected, the
-- trace is not accepted and could not have ended there.
pub for_good : (r : Rule) (m : ℕ) (w : List ℕ) (b : ℕ) → (follow_of r m w).lost ≡ some b → (ws : List (List ℕ)) (x : List ℕ) → follow_number r x ≡ none
    → ((follow_of r (handed r (follow_of r m w).set ws) x).lost ≡ some 0)
    × ((follow_of r (handed r (follow_of r m w).set ws) x).expected ≡ 0)
    × ((follow_of r (handed r (follow_of r m w).set ws) x).ends ≡ false)
    × ((follow_of r (handed r (follow_of r m w).set ws) x).complete ≡ false)
for_good = (follow.claims).for_good

-- ---- WHERE THE TRACE IS CUT
-- does not matter: a chunk u ++ w that is not refused is answered as u, and then w from the set after u.
pub followed_cut : (r : Rule) (m : ℕ) (u w : List ℕ) → follow_number r (u ++ w) ≡ none
    → Cut (length u) (follow_of r m u) (follow_of r (follow_of r m u).set w) (follow_of r m (u ++ w))
followed_cut = (follow.claims).followed_cut

-- A chunk that is not refused is answered by walk_of, which is there for every length, so that this is said
-- of a trace longer than a chunk may be.
pub as_walked : (r : Rule) (m : ℕ) (w : List ℕ) → follow_number r w ≡ none → follow_of r m w ≡ walk_of r m w
as_walked = (follow.claims).accepted

pub cut : (r : Rule) → WellFormed r → (m : ℕ) (u w : List ℕ) → Cut (length u) (walk_of r m u) (walk_of r (walk_of r m u).set w) (walk_of r m (u ++ w))
cut = (follow.claims).cut

-- ---- WORKED BY HAND
-- Chunks by rule A, by a rule for one text alone and by one with a trap: every field of each answer.
pub worked : Answered cases
worked = (follow.claims).answered

-- ---- FROM ANY SET
-- The same of runs from the states of any set that is handed in; bits for states that there are not mean
-- nothing.
pub from_any_set : (r : Rule) (m : ℕ) (w : List ℕ) → follow_number r w ≡ none → One r m w
from_any_set = (follow.claims).one

pub means_nothing : (r : Rule) (l m : ℕ) (w : List ℕ) → ((q : ℕ) → q < r.n → (q ∈ l) ↔ (q ∈ m))
    → ((follow_of r l w).ends ≡ (follow_of r m w).ends) × ((follow_of r l w).lost ≡ (follow_of r m w).lost)
    × ((follow_of r l w).expected ≡ (follow_of r m w).expected) × ((follow_of r l w).complete ≡ (follow_of r m w).complete)
    × ((q : ℕ) → q < r.n → (q ∈ (follow_of r l w).set) ↔ (q ∈ (follow_of r m w).set))
means_nothing = (follow.claims).means_nothing

-- ---- THE SAME YES OR NO AS A FILLED BOARD
-- with the same chunks: us, and w at the last place.
pub same_yes : (h : List Call) (r : Rule) (us : List (List ℕ)) (w : List ℕ) → Filled h r (us ++ (w ∷ []))
    → ((follow_of r (handed r r.initials us) w).ends ≡ true) ↔ (verdict_in h ≡ yes_with (summed_in h))
same_yes = (followverdict.claims).yes_same

pub same_no : (h : List Call) (r : Rule) (us : List (List ℕ)) (w : List ℕ) → Filled h r (us ++ (w ∷ []))
    → ((follow_of r (handed r r.initials us) w).ends ≡ false) ↔ (verdict_in h ≡ no_with (summed_in h))
same_no = (followverdict.claims).no_same

-- None of this is about nothing: what stands on a board is followed, a board without an empty place is
-- filled so, and any 1 to 64 chunks that are followed fill a board whose rule installs.
pub follows_them : (h : List Call) (r : Rule) (ws : List (List ℕ)) → Filled h r ws → FollowsAll r ws
follows_them = (followverdict.claims).follows

pub filled : (h : List Call) (r : Rule) → rule_there h ≡ some r → board_in h ≡ true → empties_in h ≡ 0
    → (us : List (List ℕ)) × (w : List ℕ) × Filled h r (us ++ (w ∷ []))
filled = (followverdict.claims).filled

pub fillings : (r : Rule) → install_number r ≡ none → (ws : List (List ℕ)) → 1 ≤ length ws → length ws ≤ most_places → FollowsAll r ws
    → (h : List Call) × Filled h r ws
fillings = (followverdict.claims).fillings

-- ---- THE NUMBERS
-- 3, 4, 6 and 8 as installing gives them, then 12 and 13 as a delivery does, and no other: a rule with
-- more than 512 sets is followed too.
pub numbers : (r : Rule) (w : List ℕ) → RefusedExactly r w
numbers = (follow.claims).numbers

pub as_installed : (r : Rule) (w : List ℕ) (x : ℕ) → x ≤ 8 → (follow_number r w ≡ some x) ↔ (install_number r ≡ some x)
as_installed = (followverdict.claims).as_installed

pub as_delivered : (h : List Call) (r : Rule) → rule_there h ≡ some r → (p v : ℕ) → p < places_in h → (w : List ℕ)
    → (x : ℕ) → (x ≡ 12) ⊎ (x ≡ 13) → (follow_number r w ≡ some x) ↔ (answer_of h (delivers p v w) ≡ refused x)
as_delivered = (followverdict.claims).as_delivered

-- A refusal carries zeros.
pub zeros : (r : Rule) (m : ℕ) (w : List ℕ) (x : ℕ) → (follow_of r m w ≡ refused_follow x) ↔ (follow_number r w ≡ some x)
zeros = (follow.claims).refused

-- ---- A RULE THAT IS CHECKED ONCE
-- Preparing is refused with 3, 4, 6 and 8 as the check refuses, with zeros, and is accepted exactly where
-- the rule is well-formed.
pub prepare_refused : (r : Rule) (x : ℕ) → ((prepare_of r).refusal ≡ some x) ↔ (rule_number r ≡ some x)
prepare_refused r = ((follow.claims).prepared r).refused

pub prepare_zeros : (r : Rule) (x : ℕ) → (prepare_of r).refusal ≡ some x → (prepare_of r).follower ≡ no_follower
prepare_zeros r = ((follow.claims).prepared r).zeros

pub prepare_accepted : (r : Rule) → ((prepare_of r).refusal ≡ none) ↔ WellFormed r
prepare_accepted r = ((follow.claims).prepared r).accepted

-- The follower carries the rule itself,
pub follower_rule : (r : Rule) → (prepare_of r).refusal ≡ none → (prepare_of r).follower.rule ≡ r
follower_rule r = ((follow.claims).prepared r).carries

-- and the states from which a final state can be reached.
pub follower_live : (r : Rule) → (prepare_of r).refusal ≡ none → (q : ℕ) → q ∈ (prepare_of r).follower.live ↔ Live (automaton_of r) q
follower_live = (follow.claims).lives

-- Following by the follower that it answers is following by the rule, in every field of every answer.
pub prepared : (r : Rule) → (prepare_of r).refusal ≡ none → (m : ℕ) (w : List ℕ) → follow_by_of (prepare_of r).follower m w ≡ follow_of r m w
prepared r = ((follow.claims).prepared r).same

-- By a follower that no accepted preparing answered the call ends within its bounds and asks nothing;
-- its answer is free, and is named by follow_by_of. It is refused with 12 and 13 by the follower's k.
pub by_any_follower : (f : Follower) (m : ℕ) (w : List ℕ) → (follow_by_of f m w).refusal ≡ chunk_number f.rule.k w
by_any_follower = (follow.claims).by_any

-- ---- FROM C
-- The functions that C links ask nothing, and allow these numbers and no others, for any rule, any
-- follower, any set and any bytes; what they say can be read back.
pub asks_nothing_from_C : (r : Rule) (f : Follower) (m : ℕ) (c : Bor (List ℕ)) (κs : Lfts 1) → AsksFollowC r m c κs × AsksFollowerC r × AsksByC f m c κs
asks_nothing_from_C r f m c κs = (tt, tt, tt)

pub from_C : (r : Rule) (m : ℕ) (w : List ℕ) (n : FollowNumbers) → MayFollowC r m w n ↔ n ≡ follow_shown (follow_of r m w)
from_C = functions.follow_fixed

pub prepared_from_C : (r : Rule) (n : FollowerNumbers) → MayPrepareC r n ↔ n ≡ prepare_shown (prepare_of r)
prepared_from_C = functions.prepare_fixed

pub by_from_C : (f : Follower) (m : ℕ) (w : List ℕ) (n : FollowNumbers) → MayFollowByC f m w n ↔ n ≡ follow_shown (follow_by_of f m w)
by_from_C = functions.by_fixed

pub told_to_C : (r : Rule) (m : ℕ) (w : List ℕ) (n : FollowNumbers) → MayFollowC r m w n → follow_read_back n ≡ follow_of r m w
told_to_C r m w n may = ap follow_read_back ((from_C r m w n).0 may) ∙ (c_follow.claims).read_back (follow_of r m w)

pub prepared_told_to_C : (r : Rule) (n : FollowerNumbers) → MayPrepareC r n → prepare_read_back n ≡ prepare_of r
prepared_told_to_C r n may = ap prepare_read_back ((prepared_from_C r n).0 may) ∙ (c_follow.claims).prepared_read_back (prepare_of r)

-- Each of C's numbers in other words than the definition's: accepted and refused,
-- ends, lost and where, complete, the rest.
pub each_number : c_claims.Claims
each_number = c_follow.claims

-- Who prepares a rule, is accepted, and follows by what came gets what `bellbadger_follow` gives.
pub same_from_C : (r : Rule) (p : FollowerNumbers) → MayPrepareC r p → p.accepted ≡ 1
    → (m : ℕ) (w : List ℕ) (n : FollowNumbers) → MayFollowByC p.follower m w n ↔ MayFollowC r m w n
same_from_C = functions.same_by
