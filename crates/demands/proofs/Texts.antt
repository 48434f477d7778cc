-- CALLS AS TEXT: what tracejudge answers to a text of calls, and what C is given for a recorded list.
-- Under each sentence stands the theorem that meets it; its proof only cites the file that has it.
-- To believe them, read the definitions that they name, and of the demands' page what document 01
-- says of a list of calls:
--
--   right_text; call_lines         a text of calls; the lines' machine   stream/specs/Texts
--   right_to                       the right answer to a question        stream/specs/Texts
--   list_text; list_of, skipped_lines lists that a malformed line ends    linetexts/specs/Lists
--   lines_of; line_in, response_text  lines, calls and answers as text      lines/, calltext/specs
--   meaning_in, SaysQuestion, ..   a line of a text; which lines ask     questions/specs
--   Diagnosed, Spotted             what a list says of a lost trace      losses/specs/Losses, Spots
--   stream_of, Blocks; finish_of   what is written for blocks            linetexts/specs/Claims, Feeding
--   Gathers; FedBlocks             a round; blocks through functions     linetexts/specs/Feeding, Functions
--   MayGather, MayFinish           what their contracts allow            demands/specs/TextFunctions
--   SaysCall; SaysNumber, ..       which lines and fields say what       calltext/, fields/specs/Claims
--   record_in, replay_of           a recorded list                       replay/specs/Records
--   FirstMalformed                 the first line that is malformed      replay/specs/Claims
--   packed_of, rule_at             a rule's bytes; the rule of bytes     packed/specs/Packed
--   answers, digits                answers and hex digits, worked        calltext/, fields/specs/Worked
--   NoFeed                         bytes without a line feed             lines/specs/Claims
--
-- A list of calls has the last call first. A proved function ends and stays within its bounds.
-- Assumes nothing.
-- All that they rest on stands in these files of specs/ (tests/believed):
--   base Conditions, Lists, Options, Totals; limits Limits; text Numerals, Writing; answers
--   Answers; masks Masks, Turns; automaton Automaton, Rules, Successor; rulecheck Checking;
--   ruleformat Format, Reader, Refusals, Writing; numbering Numbering; subsets Sets,
--   mirror/Singles; delegates Alike, Claims, mirror/Classes; live Continued, Live; build
--   mirror/Building; marks Marks; walks mirror/Steps; chunks Chunks, mirror/Walks; board Boards;
--   joins Joining; calls Calls, Replies, mirror/Steps; verdicts Shown; diagnoses Diagnosing;
--   locating Locating, Positions, mirror/Pruning; histories History; losses Answers, Losses,
--   Spots; fields Bytes, Claims, Numbers, Worked; lines Claims, Splitting; packed Claims, Packed;
--   calltext Answers, Claims, Meaning, Worked; questions Answers, Claims, Meaning, Worked;
--   callrun Running; longlines Holding; linetexts Beginnings, Claims, Feeding, Functions, Lists,
--   Parts; linebuffer Meanings; stream Texts, Worked; replay Claims, Records; capi Numbers;
--   demands Functions, TextFunctions.
use mathlib.Core.Path.{◌≡◌}
use mathlib.Core.Logic.{◌↔◌}
use mathlib.Core.Bool.{false}
use mathlib.Core.List.{List, [], ◌∷◌, ◌++◌, flatten}
use mathlib.Core.Option.{some}
use Prim.Native.Nat.{ℕ, suc, ◌≤◌, ◌<◌}
use lib.ListN.{length, take}
use Rattle.text.specs.Writing.{Wrote}
use contract.Lifetimes.{Lfts}
use denote.Ref.{Bor}
use Rattle.limits.specs.Limits.{line_room}
use Rattle.calls.specs.declared.Judge.{Judge}
use Rattle.calls.specs.Calls.{Call}
use Rattle.calls.specs.mirror.Steps.{fresh}
use Rattle.lines.specs.Splitting.{lines_of}
use Rattle.lines.specs.Claims.{NoFeed}
use Rattle.lines.proofs.Claims as lines
use Rattle.longlines.specs.Holding.{line_begin}
use Rattle.linetexts.specs.Feeding.{State, finish_of, gather_at, Gathers}
use Rattle.linetexts.specs.Beginnings.{Beginning, state_of}
use Rattle.linetexts.specs.Lists.{Listed, list_of, NoneEmpty, skipped_lines}
use Rattle.linetexts.specs.Claims.{stream_of, Blocks}
use Rattle.linetexts.specs.Functions.{FedBlocks}
use Rattle.stream.specs.Texts.{call_lines, right_to, right_answer, calls_after, right_text}
use Rattle.stream.specs.Worked.{cut_text, cut_answers, sample_text, sample_answers, lost_text, lost_answers}
use Rattle.stream.proofs.Claimed as stream
use Rattle.calltext.specs.Meaning.{again, call, malformed, line_in}
use Rattle.calltext.specs.Claims.{Fits, line_of, SaysCall}
use Rattle.calltext.specs.Worked.{answers, Written}
use Rattle.calltext.proofs.Exact as calltext
use Rattle.calltext.proofs.Examples as calltext_examples
use Rattle.questions.specs.Meaning.{Question, diagnoses, locates, question, recorded, question_in, meaning_in}
use Rattle.questions.specs.Answers.{finding_text, spot_text}
use Rattle.questions.specs.Worked.{Asked, Written as Answered}
use Rattle.questions.specs.Claims.{FitsQuestion, question_line, SaysQuestion}
use Rattle.questions.proofs.Exact as questions
use Rattle.diagnoses.specs.Diagnosing.{Finding}
use Rattle.locating.specs.Locating.{Spot}
use Rattle.losses.specs.Losses.{Diagnosed}
use Rattle.losses.specs.Spots.{Spotted}
use Rattle.linebuffer.specs.Meanings.{line_told}
use Rattle.linebuffer.proofs.Claimed as linebuffer
use Rattle.fields.specs.Worked.{digits, Read}
use Rattle.fields.proofs.Examples as fields_examples
use Rattle.automaton.specs.declared.Rule.{Rule}
use Rattle.ruleformat.specs.Format.{byte_at, word_at}
use Rattle.packed.specs.Packed.{rule_at, packed_of}
use Rattle.packed.specs.Claims.{FitsRule}
use Rattle.packed.proofs.Packing as packed
use Rattle.answers.specs.Answers.{malformed_text}
use Rattle.replay.specs.Records.{calls, malformed_at, read_line, record_in, replay_of}
use Rattle.replay.specs.Claims.{AllFit, record_of, FirstMalformed}
use Rattle.replay.proofs.RoundTrip as replay
use Rattle.capi.specs.declared.ReplayNumbers.{ReplayNumbers}
use Rattle.capi.specs.Numbers.{replay_shown}
use Rattle.capi.proofs.Asks as capi_asks
use Rattle.capi.proofs.bellbadger_replay.Reads as replay_reads
use Rattle.demands.specs.Functions.{MayReplay}
use Rattle.demands.specs.TextFunctions.{MayGather, MayFinish}
use Rattle.demands.proofs.Functions.{replay_fixed}
use Rattle.demands.proofs.TextFunctions as text_functions
use Rattle.demands.proofs.SampleText as demands_sample

-- The answers to a text of calls are right line by line, however it is cut into blocks.
pub texts : (blocks : List (List ℕ)) (line : List ℕ) → line_room ≤ length line
    → (stream_of call_lines (state_of (list_of fresh false) line_begin line) blocks).text ≡ right_text (some []) (lines_of (flatten blocks))
texts = (stream.claims).answered

-- So is all that is written, in whatever rounds the blocks are fed. (A round is what the contract of
-- `gather` promises, and the end what that of `finish` does: stream/src/lib.rt.)
pub texts_written : {s' : State Beginning (Listed Judge)} {blocks : List (List ℕ)} {line text : List ℕ} → line_room ≤ length line
    → Blocks call_lines (state_of (list_of fresh false) line_begin line) blocks s' text
    → text ++ (finish_of call_lines s').text ≡ right_text (some []) (lines_of (flatten blocks))
texts_written = (stream.claims).written

-- So from the functions: what the contract of `gather` allows is a round, that of `finish` the end, and
-- nothing else; fed through them, block by block, a text is answered right.
pub gather_allows : (s t : State Beginning (Listed Judge)) (before block after : List ℕ) (at next written : ℕ)
    → MayGather s before block at t next written after ↔ Gathers (gather_at call_lines block at (length before) s) at t next written before after
gather_allows = text_functions.gather_fixed

pub finish_allows : (s : State Beginning (Listed Judge)) (before after : List ℕ) (written : ℕ)
    → MayFinish s before written after ↔ Wrote before 0 (finish_of call_lines s).text after written
finish_allows = text_functions.finish_fixed

pub texts_fed : {written : ℕ} {s' : State Beginning (Listed Judge)} {blocks : List (List ℕ)} {line text before after : List ℕ} → line_room ≤ length line
    → FedBlocks MayGather (state_of (list_of fresh false) line_begin line) blocks s' text → MayFinish s' before written after
    → text ++ take written after ≡ right_text (some []) (lines_of (flatten blocks))
texts_fed = text_functions.fed

-- A line means a call exactly when it is that call's line, and asks a question exactly when it is that
-- question's, but for leading zeros and the case of hex digits; the empty one begins afresh, and any
-- other is malformed.
pub line_means_lem : (l : List ℕ) (c : Call) → (meaning_in l ≡ recorded (call c)) ↔ SaysCall l c
line_means_lem = (questions.claims).call_exactly

pub question_means : (l : List ℕ) (q : Question) → (meaning_in l ≡ question q) ↔ SaysQuestion l q
question_means = (questions.claims).question_exactly

pub line_again : (l : List ℕ) → (meaning_in l ≡ recorded again) ↔ (l ≡ [])
line_again = (questions.claims).again_exactly

pub line_malformed : (l : List ℕ) → (meaning_in l ≡ recorded malformed)
    ↔ ((l ≡ [] → ⊥) × ((c : Call) → SaysCall l c → ⊥) × ((q : Question) → SaysQuestion l q → ⊥))
line_malformed = (questions.claims).malformed_exactly

-- A question changes nothing, neither the calls that are known nor the judge, whatever that is; and it
-- is answered with what the list of calls says of the trace (requests/proofs/Losses).
pub question_changes_nothing : (h : List Call) (l : List ℕ) (q : Question) → meaning_in l ≡ question q
    → (right_answer h l ≡ right_to h q) × (calls_after h l ≡ some h)
question_changes_nothing = (stream.claims).question_right

pub question_keeps_judge : (j : Judge) (l : List ℕ) (q : Question) → meaning_in l ≡ question q → (line_told j (meaning_in l)).state ≡ list_of j false
question_keeps_judge = (linebuffer.claims).question_keeps

pub diagnose_answered : (h : List Call) (f : Finding) → Diagnosed h f → right_to h diagnoses ≡ finding_text f
diagnose_answered = (stream.claims).diagnose_right

pub locate_answered : (h : List Call) (p : ℕ) (w : List ℕ) (s : Spot) → Spotted h p w s → right_to h (locates p w) ≡ spot_text s
locate_answered = (stream.claims).locate_right

pub question_round_trip : (q : Question) → FitsQuestion q → meaning_in (question_line q) ≡ question q
question_round_trip = (questions.claims).question_round_trip

-- In a recorded list, which is one of calls, a line means a call, and the empty one a fresh judge; any
-- other is malformed there, a question too.
pub recorded_means : (l : List ℕ) (c : Call) → (line_in l ≡ call c) ↔ SaysCall l c
recorded_means = (calltext.claims).line_exactly

pub recorded_again : (l : List ℕ) → (line_in l ≡ again) ↔ (l ≡ [])
recorded_again = (calltext.claims).again_exactly

pub recorded_malformed : (l : List ℕ) → (line_in l ≡ malformed) ↔ ((l ≡ [] → ⊥) × ((c : Call) → SaysCall l c → ⊥))
recorded_malformed = (calltext.claims).malformed_exactly

pub recorded_question : (l : List ℕ) (q : Question) → question_in l ≡ some q → line_in l ≡ malformed
recorded_question = (questions.claims).not_recorded

-- After a malformed line no call is made and no verdict given until an empty line: each line is
-- answered `skipped`, whatever it says. The empty line begins afresh.
pub malformed_ends : (h : List Call) (l : List ℕ) (ls : List (List ℕ)) → meaning_in l ≡ recorded malformed → NoneEmpty ls
    → right_text (some h) (l ∷ ls) ≡ malformed_text ++ skipped_lines ls
malformed_ends = (stream.claims).ends_list

pub begins_afresh : (h : List Call) (l : List ℕ) (ls more : List (List ℕ)) → meaning_in l ≡ recorded malformed → NoneEmpty ls
    → right_text (some h) ((l ∷ ls) ++ ([] ∷ more)) ≡ malformed_text ++ (skipped_lines ls ++ ((10 ∷ []) ++ right_text (some []) more))
begins_afresh = (stream.claims).afresh

-- Worked, byte by byte: samples/two_chunks.calls is answered with what the README prints for it, and
-- a text in which a line was cut with `malformed` and `skipped`.
pub sample_text_lem : right_text (some []) (lines_of sample_text) ≡ sample_answers
sample_text_lem = demands_sample.sample

-- So is samples/lost.calls, with questions on an open and on a lost trace.
pub lost_text_lem : right_text (some []) (lines_of lost_text) ≡ lost_answers
lost_text_lem = demands_sample.lost_sample

pub cut_text_lem : right_text (some []) (lines_of cut_text) ≡ cut_answers
cut_text_lem = (stream.claims).worked

-- What C is given for a recorded list, of which nothing is asked, is the verdict after it, or its
-- first malformed line; and every list of calls has a record, a line for each call.
pub replay_asks_nothing : (κs : Lfts 1) (c : Bor (List ℕ)) → replay_reads.Asked κs (c, tt)
replay_asks_nothing = capi_asks.replay_asks_nothing

pub replayed : (text : List ℕ) (r : ReplayNumbers) → MayReplay text r ↔ r ≡ replay_shown (replay_of (record_in text))
replayed = replay_fixed

pub records : (h : List Call) → AllFit h → record_in (record_of h) ≡ calls h
records = (replay.claims).record_round_trip

pub recorded_line : (i : ℕ) (h : List Call) (c : Call) → Fits c → read_line (calls h) i (line_of c) ≡ calls (c ∷ h)
recorded_line = (replay.claims).line_read

-- ---- IN OTHER WORDS
-- So that none of the sentences above rests on a definition alone. A text is no record exactly when
-- a line is malformed, and its first such line is named, counted from 1. An empty line begins
-- afresh, in a record and in a list that goes on.
pub record_malformed : (w : List ℕ) (i : ℕ) → (record_in w ≡ malformed_at i) ↔ ((j : ℕ) × (i ≡ suc j) × FirstMalformed (lines_of w) j)
record_malformed = (replay.claims).malformed_exactly

pub empty_line_recorded : (i : ℕ) (h : List Call) → read_line (calls h) i [] ≡ calls []
empty_line_recorded = (replay.claims).fresh_line

pub empty_line : (h : List Call) (ls : List (List ℕ)) → right_text (some h) ([] ∷ ls) ≡ (10 ∷ []) ++ right_text (some []) ls
empty_line = (stream.claims).fresh_line

-- A line feed ends a line and, if the last one is not empty, so does the text's end.
pub line_ended : (l w : List ℕ) → NoFeed l → lines_of (l ++ (10 ∷ w)) ≡ l ∷ lines_of w
line_ended = (lines.claims).line_ended

pub line_last : (l : List ℕ) → NoFeed l → 0 < length l → lines_of l ≡ l ∷ []
line_last = (lines.claims).line_last

pub no_line : lines_of [] ≡ []
no_line = (lines.claims).no_line

-- "The value holds n, k, both masks and a target mask for each state and symbol" (R-3): in the
-- bytes of an installation n and k stand first, then the mask of initial states, then that of final
-- ones.
pub rule_bytes : (r : Rule) → FitsRule r
    → (byte_at (packed_of r) 0 ≡ r.n) × (byte_at (packed_of r) 1 ≡ r.k) × (word_at (packed_of r) 2 ≡ r.initials) × (word_at (packed_of r) 6 ≡ r.finals)
rule_bytes = (packed.claims).packed_head

pub bytes_rule : (b : List ℕ)
    → ((rule_at b).n ≡ byte_at b 0) × ((rule_at b).k ≡ byte_at b 1) × ((rule_at b).initials ≡ word_at b 2) × ((rule_at b).finals ≡ word_at b 6)
bytes_rule = (packed.claims).stated_head

-- Each kind of answer, byte by byte: "beside yes or no the verdict now carries the number of text
-- bytes, the whole quotient of the count by it, and the exact remainder" (R-1), in this order; and
-- each hex digit of either case.
pub answers_written : Written answers
answers_written = calltext_examples.written

-- and each kind of question and of its answer.
pub questions_asked : Asked
questions_asked = questions.asked_worked

pub questions_answered : Answered
questions_answered = questions.written_worked

pub digits_read : Read digits
digits_read = fields_examples.digits_read
