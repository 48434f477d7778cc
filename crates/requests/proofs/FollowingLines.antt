-- A TRACE IN ORDER, BY LINES: `tracefollow`, sentence by sentence. Under each stands the theorem that
-- meets it; its proof only cites the file that has it. What following a chunk says is on the page
-- Following. To believe them, read the definitions that they name:
--
--   Call, Reply                  the calls, and what they are answered     followcalls/specs/Calls
--   rule_in h; LastBegun         the rule that is there; the last one, by the list cut in two   followcalls/specs/Histories
--   chunks_in h; right_reply h c  the chunks since; the right reply         followcalls/specs/Histories
--   reply_of s c, follow_machine  what the code's contracts cite            followcalls/specs/Calls
--   line_in; SaysLine, line_of    what a line means; a call's line          followlines/specs/Lines, Claims
--   reply_text; Written          replies as text; each kind by hand        followlines/specs/Answers, Worked
--   right_text                   the right answers to lines                followstream/specs/Texts
--   calls_text, calls_answers    a text by hand, in bytes                  followstream/specs/Worked
--   taken_text r ws; follow_number r w  the text of the chunks not refused; 12, 13   follow/specs/Claims, Following
--   Accepts; Continued a v       an accepting run; some text continues v to an accepted one   automaton/specs/Automaton, live/specs/Continued
--   Blocks                       a text that comes in blocks               linetexts/specs/Claims
--   list_text; list_of, skipped_lines  lists that a malformed line ends      linetexts/specs/Lists
--
-- A file and a chunk are any bytes. A proved function ends and stays within its bounds. Assumes nothing.
-- All that they rest on stands in these files of specs/ (tests/believed):
--   base Conditions, Lists, Options; limits Limits; text Numerals, Writing; answers Answers;
--   masks Masks, Turns; automaton Automaton, Rules, Successor; rulecheck Checking; ruleformat
--   Format, Reader, Refusals; live Continued, Live; marks Marks; chunks Chunks, Taking; follow
--   Claims, Following; executions Executions, Last; fields Bytes, Claims; lines Splitting;
--   followcalls Calls, Histories; followlines Answers, Claims, Lines, Worked; longlines Holding;
--   linetexts Beginnings, Claims, Feeding, Lists, Parts; followstream Texts, Worked.
use mathlib.Core.Path.{◌≡◌}
use mathlib.Core.Logic.{◌↔◌}
use mathlib.Core.Bool.{Bool, true, false}
use mathlib.Core.List.{List, [], ◌∷◌, ◌++◌, flatten}
use mathlib.Core.Option.{none, some}
use Prim.Native.Nat.{ℕ, ◌+◌, ◌-◌, ◌≤◌, ◌<◌}
use lib.ListN.{length, take}
use Rattle.masks.specs.Masks.{◌∈◌}
use Rattle.marks.specs.Marks.{text_of}
use Rattle.automaton.specs.Automaton.{Accepts}
use Rattle.automaton.specs.Rules.{automaton_of, WellFormed}
use Rattle.ruleformat.specs.Reader.{rule_of}
use Rattle.executions.specs.Executions.{state_after}
use Rattle.lines.specs.Splitting.{lines_of}
use Rattle.answers.specs.Answers.{malformed_text}
use Rattle.longlines.specs.Holding.{line_begin}
use Rattle.linetexts.specs.Feeding.{State, finish_of}
use Rattle.linetexts.specs.Beginnings.{Beginning, state_of}
use Rattle.linetexts.specs.Lists.{Listed, list_of, NoneEmpty, skipped_lines}
use Rattle.linetexts.specs.Claims.{Blocks}
use Rattle.live.specs.Continued.{Continued}
use Rattle.follow.specs.Following.{follow_number}
use Rattle.follow.specs.Claims.{taken_text}
use Rattle.followcalls.specs.declared.FollowState.{FollowState}
use Rattle.followcalls.specs.Calls.{Call, follows, going, lost_at, refused, none_yet, reply_of, follow_machine}
use Rattle.followcalls.specs.Histories.{rule_in, chunks_in, after_chunks, right_reply, LastBegun}
use Rattle.followcalls.proofs.Claims as followcalls
use Rattle.followlines.specs.Lines.{line_in}
use Rattle.followlines.specs.Worked.{Written}
use Rattle.followlines.specs.Claims.{Fits, line_of, SaysLine}
use Rattle.followlines.proofs.Exact as followlines
use Rattle.followstream.specs.Texts.{follow_room, follow_lines, right_text}
use Rattle.followstream.specs.Worked.{calls_text, calls_answers}
use Rattle.followstream.proofs.Claimed as followstream

-- ---- THE TEXT
-- All that `tracefollow` writes, in whatever rounds the blocks of its input are fed, is right line by
-- line, however the text is cut into blocks. (A round is what the contract of `gather` promises, and the
-- end what that of `finish` does: followstream/src/lib.rt.)
pub texts : {s' : State Beginning (Listed FollowState)} {blocks : List (List ℕ)} {line text : List ℕ} → follow_room + 1 ≤ length line
    → Blocks follow_lines (state_of (list_of none_yet false) line_begin line) blocks s' text
    → text ++ (finish_of follow_lines s').text ≡ right_text (some []) (lines_of (flatten blocks))
texts = (followstream.claims).written

-- By hand, in bytes: rule A of document 01, refused chunks and a refused rule, which change nothing; a
-- rule for one text alone, until the trace is lost and past it; a malformed line, and an empty one.
pub by_hand : right_text (some []) (lines_of calls_text) ≡ calls_answers
by_hand = (followstream.claims).worked

-- A line means a call exactly when it is the call's word and its field, one space between them: bytes as
-- hex digits of either case, or `-` for none. An empty line forgets the rule; any other is malformed.
-- Every call has a line.
pub line_exactly : (l : List ℕ) (c : Call) → (line_in l ≡ some c) ↔ SaysLine l c
line_exactly = (followlines.claims).line_exactly

pub line_malformed : (l : List ℕ) → (line_in l ≡ none) ↔ ((c : Call) → SaysLine l c → ⊥)
line_malformed = (followlines.claims).malformed_exactly

pub every_call : (c : Call) → Fits c → line_in (line_of c) ≡ some c
every_call = (followlines.claims).line_round_trip

-- The answers in bytes, each kind by hand: `yes FEDC`, `no 8001`, `lost 65536 1234`, `refused 20`,
-- `accepted`, an empty line and `malformed`.
pub answers_written : Written
answers_written = (followlines.claims).answers_written

-- After a malformed line no call is made until an empty line: each line is answered `skipped`, whatever it
-- says. The empty line begins afresh.
pub malformed_ends : (h : List Call) (l : List ℕ) (ls : List (List ℕ)) → line_in l ≡ none → NoneEmpty ls
    → right_text (some h) (l ∷ ls) ≡ malformed_text ++ skipped_lines ls
malformed_ends = (followstream.claims).ends_list

pub begins_afresh : (h : List Call) (l : List ℕ) (ls more : List (List ℕ)) → line_in l ≡ none → NoneEmpty ls
    → right_text (some h) ((l ∷ ls) ++ ([] ∷ more)) ≡ malformed_text ++ (skipped_lines ls ++ ((10 ∷ []) ++ right_text (some []) more))
begins_afresh = (followstream.claims).afresh

-- ---- THE CALLS
-- What the functions answer after any list of calls is what the list alone says.
pub calls_right : (h : List Call) (c : Call) → reply_of (state_after follow_machine h) c ≡ right_reply h c
calls_right = (followcalls.claims).right

-- The rule that is there is that of the last accepted call among rules and forgettings, where this is a
-- rule; it is well-formed.
pub last_rule : (h : List Call) → LastBegun h
last_rule = (followcalls.claims).last

pub well_formed : (h : List Call) (f : List ℕ) → rule_in h ≡ some f → WellFormed (rule_of f)
well_formed = (followcalls.claims).well_formed

-- A chunk without a rule is refused with 20; else with 12 and 13, as following refuses it.
pub no_rule_lem : (h : List Call) (w : List ℕ) → rule_in h ≡ none → right_reply h (follows w) ≡ refused 20
no_rule_lem = (followcalls.claims).lacking

module _ (h : List Call) (f w : List ℕ) (there : rule_in h ≡ some f) where
  pub refused_exactly : (x : ℕ) → (right_reply h (follows w) ≡ refused x) ↔ (follow_number (rule_of f) w ≡ some x)
  refused_exactly = (followcalls.claims).refused_exactly h f w there

  -- One that is not refused is answered by the text so far: the chunks since the rule that were not
  -- refused, without their idle marks, and then this one.
  module _ (ok : follow_number (rule_of f) w ≡ none) where
    abbrev so_far : List ℕ → List ℕ
    so_far u = taken_text (rule_of f) (chunks_in h) ++ u

    -- Yes exactly when the rule accepts it;
    pub yes_exactly : ((m : ℕ) × (right_reply h (follows w) ≡ going true m)) ↔ Accepts (automaton_of (rule_of f)) (so_far (text_of w))
    yes_exactly = ((followcalls.claims).said h f w there ok).yes_exactly

    -- no when it does not, and some text continues it to an accepted one;
    pub no_exactly : ((m : ℕ) × (right_reply h (follows w) ≡ going false m))
        ↔ (Continued (automaton_of (rule_of f)) (so_far (text_of w)) × (Accepts (automaton_of (rule_of f)) (so_far (text_of w)) → ⊥))
    no_exactly = ((followcalls.claims).said h f w there ok).no_exactly

    -- lost at b exactly where the text up to b bytes of this chunk, idle marks counted, has no accepted
    -- continuation, and every one that is shorter by bytes of this chunk has.
    pub lost_exactly : (b : ℕ) → ((m : ℕ) × (right_reply h (follows w) ≡ lost_at b m))
        ↔ ((b ≤ length w) × (Continued (automaton_of (rule_of f)) (so_far (text_of (take b w))) → ⊥) × ((i : ℕ) → i < b → Continued (automaton_of (rule_of f)) (so_far (text_of (take i w)))))
    lost_exactly = ((followcalls.claims).said h f w there ok).lost_exactly

    -- Bit s of the mask is set exactly where symbol s could come next; where the trace is lost, where it
    -- could have stood in the place of the byte by which it was.
    pub next_symbols : (e : Bool) (m s : ℕ) → right_reply h (follows w) ≡ going e m → s ∈ m ↔ Continued (automaton_of (rule_of f)) (so_far (text_of w ++ (s ∷ [])))
    next_symbols = ((followcalls.claims).said h f w there ok).next

    pub symbols_there : (b m s : ℕ) → right_reply h (follows w) ≡ lost_at b m
        → s ∈ m ↔ Continued (automaton_of (rule_of f)) (so_far (text_of (take (b - 1) w) ++ (s ∷ [])))
    symbols_there = ((followcalls.claims).said h f w there ok).there

-- Lost is for good: every further chunk that is not refused is answered `lost 0 0000`.
pub for_good : (h : List Call) (f w : List ℕ) (b m : ℕ) → rule_in h ≡ some f → right_reply h (follows w) ≡ lost_at b m
    → (ws : List (List ℕ)) (x : List ℕ) → follow_number (rule_of f) x ≡ none
    → right_reply (after_chunks (follows w ∷ h) ws) (follows x) ≡ lost_at 0 0
for_good = (followcalls.claims).for_good
