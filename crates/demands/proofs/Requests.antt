-- THE REQUESTS THAT CHANGE THE JUDGE (document 02: R-1 to R-5, R-7, R-11, R-12), sentence by
-- sentence. A request that brought functions of its own has a page in crates/requests. To believe
-- the theorems, read the definitions that they name:
--
--   report_by; Divided, ThreeZeros  what is reported with a verdict  calls/specs/Calls, Claims
--   LookedUp                       bytes for which a set is looked up transcripts/specs/Runs
--   read_of f, ReadLaw; LoadIs     reading a file; a load           ruleformat/, calls/specs
--   CountBound                     the sum's bound; the former 24   histories/specs/CountBound
--   text_of; foreign, ForeignByte   a chunk without idle marks; 13   marks/, chunks/, calls/specs
--   MarksSkipped                   idle marks                       calls/specs/Claims
--   SameAnswer; FormerMerged ..    the former starts and join       histories/, joins/specs
--   last_revision, least_after     revisions at a place             histories/specs/History, Claims
--   Orders; Revisions              deliveries in any order          histories/specs
--   Fewest, Covers                 the fewest starts                histories/, delegates/specs
--
-- A list of calls has the last call first. Assumes nothing.
-- All that they rest on stands in these files of specs/ (tests/believed):
--   base Answers, Conditions, Lists, Options, Totals; limits Limits; masks Masks; automaton
--   Automaton, Rules, Successor; rulecheck Checking; ruleformat Claims, Format, Language, Reader,
--   Refusals; numbering Numbering; subsets Sets, mirror/Singles; delegates Alike, Claims, Fewest,
--   mirror/Classes; build mirror/Building; marks Marks; walks mirror/Steps; chunks Chunks,
--   Counting, mirror/Walks; board Boards; joins Former, Joining; calls Calls, Claims, Replies,
--   mirror/Steps; executions Executions; histories Claims, CountBound, Fewest, FormerStarts,
--   History, Orders, Revisions; transcripts Runs, Standing.
use mathlib.Core.Path.{◌≡◌, refl}
use mathlib.Core.Logic.{◌↔◌, ◌⊎◌}
use mathlib.Core.Bool.{true}
use mathlib.Core.List.{List, [], ◌∷◌}
use mathlib.Core.Option.{none, some}
use Prim.Native.Nat.{ℕ, ◌<◌}
use lib.ListN.{length, get_or}
use Rattle.limits.specs.Limits.{most_places, most_transitions}
use Rattle.marks.specs.Marks.{text_of}
use Rattle.marks.proofs.Claims as marks
use Rattle.automaton.specs.declared.Rule.{Rule}
use Rattle.automaton.specs.Rules.{automaton_of}
use Rattle.automaton.specs.Successor.{after}
use Rattle.rulecheck.specs.Checking.{rule_number}
use Rattle.ruleformat.specs.Claims.{ReadLaw}
use Rattle.ruleformat.proofs.Claims as rulefile
use Rattle.joins.specs.Former.{FormerMerged}
use Rattle.joins.proofs.Former.{former_claims}
use Rattle.board.specs.Boards.{last_at, summed_bytes}
use Rattle.calls.specs.declared.Judge.{Judge}
use Rattle.calls.specs.Replies.{waiting, yes_with, no_with, refused_with, delivered}
use Rattle.calls.specs.Calls.{Call, install_number, delivers}
use Rattle.calls.specs.mirror.Steps.{report_of}
use Rattle.calls.specs.Claims.{LoadIs, Divided, ThreeZeros, ForeignByte, MarksSkipped}
use Rattle.chunks.specs.Chunks.{foreign}
use Rattle.calls.proofs.Loading as calls_loading
use Rattle.calls.proofs.Foreign as calls_foreign
use Rattle.calls.proofs.MarksSkipped as calls_marks
use Rattle.histories.specs.History.{last_revision, length_at, bytes_in, text_in, verdict_in, report_in, answer_of, answers_to}
use Rattle.histories.specs.Claims.{judge_after, least_after}
use Rattle.histories.specs.CountBound.{CountBound}
use Rattle.histories.specs.FormerStarts.{SameAnswer}
use Rattle.histories.specs.Fewest.{BuildFewest, InstallFewest, LoadFewest}
use Rattle.histories.specs.Revisions.{Revisions}
use Rattle.histories.specs.Orders.{Orders}
use Rattle.histories.proofs.EveryList.{every_list}
use Rattle.histories.proofs.Steps.{accepted_rule}
use Rattle.histories.proofs.CountBound as histories_bound
use Rattle.histories.proofs.FormerStarts as histories_former
use Rattle.histories.proofs.Orders as histories_orders
use Rattle.histories.proofs.Revisions as histories_revisions
use Rattle.histories.proofs.Fewest as histories_fewest
use Rattle.transcripts.specs.Standing.{standing_after, the_automaton}
use Rattle.transcripts.specs.Runs.{LookedUp}
use Rattle.transcripts.proofs.Agree as transcripts_agree
use Rattle.transcripts.proofs.Replies as transcripts_replies
use Rattle.demands.proofs.Installing as installing

-- ---- R-1

-- Beside yes or no the verdict reports the number of text bytes, and the whole quotient and the
-- exact remainder of the count by it; for a text of 0 bytes both are 0, beside waiting or a refusal
-- all three (document 02, R-1). Each place holds the length of its standing chunk without idle
-- marks, an empty one 0:
pub lengths : (h : List Call) (p : ℕ) → p < most_places → get_or (judge_after h).board.lengths p 0 ≡ length_at h p
lengths h = (every_list h).after.lengths

-- they sum up to the length of these texts joined by place;
pub text_bytes : (h : List Call) → (summed_bytes (judge_after h).board ≡ bytes_in h) × (bytes_in h ≡ length (text_in h))
text_bytes h = ((every_list h).after.summed_bytes_lem, (every_list h).report.text_bytes)

-- what is reported is the verdict of the sentences above with these numbers.
pub reported : (h : List Call) → (report_of (judge_after h) ≡ report_in h) × ((report_in h).verdict ≡ verdict_in h)
reported h = ((every_list h).after.reported, (every_list h).report.verdict)

pub divided : (h : List Call) (count : ℕ) → (verdict_in h ≡ yes_with count) ⊎ (verdict_in h ≡ no_with count)
    → Divided count (length (text_in h)) (report_in h)
divided h = (every_list h).report.divided

pub zeros : (h : List Call) (x : ℕ) → (verdict_in h ≡ waiting x) ⊎ (verdict_in h ≡ refused_with x) → ThreeZeros (report_in h)
zeros h = (every_list h).report.zeros

-- ---- R-2

-- An accepted delivery is answered for how many bytes of its text any successor is looked up: the
-- least number of text bytes after which every run's set is empty, else all (document 02, R-2).
pub looked_up_lem : (h : List Call) (p v : ℕ) (w : List ℕ) (n : ℕ)
    → answer_of h (delivers p v w) ≡ delivered n → LookedUp (the_automaton (standing_after h (answers_to h))) p (text_of w) n
looked_up_lem h = transcripts_replies.looked_up_lem h (standing_after h (answers_to h)) (transcripts_agree.agree h)

-- ---- R-3

-- A load reads its file, which stands outside the list, and is then an installation (document 02,
-- R-3): one that reading refuses is answered with that number and changes nothing, and one that it
-- accepts has the outcome of installing the rule in the file. On every state:
pub load_is : (j : Judge) (f : List ℕ) → LoadIs j f
load_is = calls_loading.load_is

-- Reading gives 1 to 8 in order, zeros where it refuses, and else the rule in the file, which
-- passes the check of a rule as a value and accepts the texts that the automaton in the bytes
-- accepts. Any call that takes such a value first gives 3, 4, 6 or 8 as installing would.
pub reading : (f : List ℕ) → ReadLaw f
reading = (rulefile.claims).reading

pub as_installing : (r : Rule) (x : ℕ) → (x ≡ 3) ⊎ (x ≡ 4) ⊎ (x ≡ 6) ⊎ (x ≡ 8) → (rule_number r ≡ some x) ↔ (install_number r ≡ some x)
as_installing = installing.exactly

-- ---- R-4

-- The sum of the counts is at most 64 places times 65,536 bytes times 32 starts; so it is with a
-- chunk that can be delivered, counted instead of what it replaces. So what document 01 numbered
-- 24, a sum over 4,294,967,295, changed no answer, and a delivery has the other five conditions
-- (document 02, R-4).
pub bound_is : most_transitions ≡ 134217728
bound_is = refl

pub count_bound : (h : List Call) → CountBound h
count_bound = histories_bound.count_bound

-- ---- R-5

-- 13 is by a delivery's text, which is its chunk without idle marks (document 02, R-5): it is the
-- number exactly where some byte is neither an idle mark, 255, nor a symbol below k.
pub foreign_bytes : (w : List ℕ) (k : ℕ) → (foreign (text_of w) k ≡ true) ↔ ForeignByte w k
foreign_bytes = calls_foreign.foreign_exactly

-- An idle mark "is skipped, counts no transition and isn't part of the text"; "Chunk length limits
-- still count every byte" (document 02, R-5). With and without its marks a delivery has the same
-- outcome, on any state; one of more than 65,536 bytes is refused with 21, 11 or 12, whatever its
-- text.
pub marks_skipped : (j : Judge) (p v : ℕ) (w : List ℕ) → MarksSkipped j p v w
marks_skipped = calls_marks.marks_skipped

-- What the text of a chunk is, byte by byte: an idle mark, 255, is left out, and any other byte
-- stays.
pub text-of : (text_of [] ≡ []) × ((w : List ℕ) → text_of (255 ∷ w) ≡ text_of w)
    × ((b : ℕ) (w : List ℕ) → (b ≡ 255 → ⊥) → text_of (b ∷ w) ≡ b ∷ text_of w)
unfolding text_of
text-of = (refl, (marks.claims).skipped, (marks.claims).kept)

-- ---- R-7

-- with the starts that document 01 had, of every state the lowest alike one, also of states that
-- lead nowhere, it was the same (document 02, R-7);
pub former_starts : (r : Rule) → install_number r ≡ none → (d : List ℕ) × (m : ℕ) × FormerMerged (automaton_of r) d m
former_starts r e = let x = accepted_rule r e in former_claims.former_merged r x.0 x.1

pub same_yes_or_no : (h : List Call) → SameAnswer h
same_yes_or_no = histories_former.same_answer

-- ---- R-11

-- A delivery carries a revision (document 02, R-11). It gets 22 when its revision is not greater
-- than the last one accepted at its place since the opening (`refused_exactly`); a greater one
-- replaces what stands, of which nothing is left (`ends`, `counts`, `lengths` below). Each place
-- holds the last revision:
pub revisions : (h : List Call) (p : ℕ) → p < most_places → last_at (judge_after h).board p ≡ least_after (last_revision h p)
revisions h = (every_list h).after.revisions

-- and any two orders of the same deliveries, no revision twice at a place, leave the same judge,
-- made after any calls, a fresh board's among others.
pub any_order : (h : List Call) → Orders h
any_order = histories_orders.orders

-- In the request's words: not greater gets 22 even after a withdrawal, an opening forgets, a
-- greater one replaces what stands and is the last one, and where none was accepted nothing stands.
pub revisions_say : (h : List Call) → Revisions h
revisions_say = histories_revisions.revisions

-- ---- R-12

-- No choice of starting states that gives each state with a reachable final state an alike one has
-- fewer than M members, and one has M: the M that the build returned, by its own contract, for
-- every well-formed rule, and that any accepted installation or load answered (document 02, R-12).
pub fewest_built : BuildFewest
fewest_built = histories_fewest.build_fewest

pub fewest_starts : (h : List Call) → InstallFewest h
fewest_starts = histories_fewest.install_fewest

pub fewest_of_bytes : (h : List Call) → LoadFewest h
fewest_of_bytes = histories_fewest.load_fewest
