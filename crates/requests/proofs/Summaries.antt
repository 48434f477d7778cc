-- CHUNKS ON MANY MACHINES: each is summarized where it is recorded, summaries are combined in any
-- brackets, and the last one is concluded. Sentence by sentence; under each stands the theorem that
-- meets it, whose proof only cites the file that has it. To believe them, read the definitions that
-- they name:
--
--   Summary, combine a b       a summary; two of them combined     summaries/specs/Summaries
--   summarize_of j number w    what the judge j answers to a chunk summaries/specs/Summaries
--   conclude_of j a chunks     the report                          summaries/specs/Summaries
--   SummarizedExactly,         number by number, on any judge      summaries/specs/Claims
--   ConcludedExactly
--   Joined, end_in, counts_in   a whole row of summaries; the sums  summaries/specs/Claims
--   Bracketed, leaves, value_of values in any brackets              compositions/specs/Bracketing
--   digest_of b                the digest of a built rule          digests/specs/Digests
--   judge_of r, summary_at,    a rule's summaries of numbered      summaryverdict/specs/Traces
--   summaries_from, ..         chunks
--   Trace, Reports             a trace; its chunks' report         summaryverdict/specs/Traces
--   Numbered, made_by, Used    whatever was combined, and used     summaryverdict/specs/Traces
--   summary_there, ..          by the rule that a list leaves      summaryverdict/specs/Lists
--   MaySummarize, Gathered,    what the contracts allow, and what  summaryverdict/specs/Functions
--   SummarizedOn               whoever uses the functions gets
--   MaySummarizeC ..           the same of those that C links      requests/specs/SummaryFunctions
--   summary_shown, ..          C's numbers                         c_summaries/specs/Numbers
--   chunk_number k w           12, 13                              chunks/specs/Taking
--   Filled h r ws              a board filled with the chunks ws   fillings/specs/Filled
--   report_in h, run_at r p     what 01 says of a list of calls     histories/specs/History
--   delegate_set, end_set       running a chunk (01)                chunks/specs/Chunks
--   Accepts                    automata and their runs (000)       automaton/specs/Automaton
--
-- A summary is any value, in which any numbers may stand, and a judge any state. The digest is a
-- guard against mistakes, not against attackers: summaries of another rule are told where its
-- digest is another. A proved function ends and stays within its bounds. Assumes nothing.
-- All that they rest on stands in these files of specs/ (tests/believed):
--   base Answers, Conditions, Lists, Options, Totals; limits Limits; flags Flags; masks Masks;
--   automaton Automaton, Rules, Successor; rulecheck Checking; ruleformat Format, Reader,
--   Refusals, Worked; numbering Numbering; compositions Bracketing, Relations; subsets Sets,
--   mirror/Singles; delegates Alike, Claims, mirror/Classes; build mirror/Building; digests
--   Digests, Worked; marks Marks; walks mirror/Steps; chunks Chunks, Taking, mirror/Walks; board
--   Boards; joins Claims, Joining; calls Calls, Claims, Replies, mirror/Steps; verdicts Shown;
--   executions Executions; histories Claims, Functions, History; fillings Filled; summaries
--   Claims, Summaries; summaryverdict Functions, Lists, Traces, Worked; c_summaries Numbers; capi
--   Numbers; demands Functions; requests SummaryFunctions.
use Rattle.base.specs.declared.Refusal.{Refusal}
use Rattle.std.proofs.Common.{Result}
use mathlib.Core.Path.{◌≡◌, refl}
use mathlib.Core.Logic.{◌↔◌, ◌⊎◌}
use mathlib.Core.List.{List, ◌∷◌, flatten}
use mathlib.Core.Option.{none, some}
use Prim.Native.Nat.{ℕ, ◌^◌, ◌≤◌, ◌<◌}
use contract.Lifetimes.{Lfts}
use denote.Ref.{Bor}
use lib.ListN.{length, get_or}
use Rattle.limits.specs.Limits.{most_states, most_places, largest_number, longest_chunk}
use Rattle.base.specs.Lists.{list_from}
use Rattle.masks.specs.Masks.{◌∈◌}
use Rattle.marks.specs.Marks.{text_of}
use Rattle.compositions.specs.Bracketing.{Bracketed, leaves, Associative, value_of}
use Rattle.automaton.specs.declared.Rule.{Rule}
use Rattle.automaton.specs.Automaton.{Accepts}
use Rattle.automaton.specs.Rules.{automaton_of}
use Rattle.delegates.specs.Claims.{starts_in}
use Rattle.build.specs.declared.Built.{Built}
use Rattle.build.specs.mirror.Building.{built_of}
use Rattle.digests.specs.Digests.{digest_of}
use Rattle.digests.specs.Worked.{cases, Digests}
use Rattle.digests.proofs.Laws as digest_laws
use Rattle.digests.proofs.Examples as digest_cases
use Rattle.chunks.specs.Chunks.{delegate_set, end_set, chunk_count}
use Rattle.chunks.specs.Taking.{chunk_number}
use Rattle.executions.specs.Executions.{Execution}
use Rattle.calls.specs.declared.Judge.{Judge}
use Rattle.calls.specs.declared.Report.{Report}
use Rattle.calls.specs.Replies.{Reply, Reported, refused_with, refusal_in, refused, report_means}
use Rattle.calls.specs.Calls.{Call, delivers, install_number}
use Rattle.histories.specs.History.{rule_there, places_in, run_at, report_in, answer_of}
use Rattle.histories.specs.Claims.{judge_after}
use Rattle.histories.specs.Functions.{judge_library}
use Rattle.demands.specs.Functions.{c_library}
use Rattle.fillings.specs.Filled.{Filled}
use Rattle.summaries.specs.declared.Summary.{Summary}
use Rattle.summaries.specs.Summaries.{capped, combine, no_summary, Summarized, summary_outcome, summarize_of, conclude_of}
use Rattle.summaries.specs.Claims.{counts_in, bytes_in, end_in, Joined, SummarizedExactly, ConcludedExactly}
use Rattle.summaries.proofs.Claims as summaries
use Rattle.summaries.proofs.summarize.Reads as summarize_reads
use Rattle.summaries.proofs.combine.Reads as combine_reads
use Rattle.summaries.proofs.conclude.Reads as conclude_reads
use Rattle.summaryverdict.specs.Traces.{judge_of, texts_of, many_chunks, Numbered, numbers_of, chunks_of, summary_at, summaries_from, SummarizesAll, count_of, made_by, Trace, Reports, Used, concluded_by}
use Rattle.summaryverdict.specs.Lists.{summary_there, conclude_there}
use Rattle.summaryverdict.specs.Functions.{MaySummarize, MayCombine, MayConclude, Gathered, SummarizedOn, numbered_from}
use Rattle.summaryverdict.specs.Worked.{DigestA}
use Rattle.summaryverdict.proofs.Claims as summaryverdict
use Rattle.summaryverdict.proofs.Lists as lists
use Rattle.summaryverdict.proofs.Functions as functions
use Rattle.summaryverdict.proofs.Examples as examples
use Rattle.c_summaries.specs.declared.SummaryNumbers.{SummaryNumbers}
use Rattle.c_summaries.specs.declared.ConcludeNumbers.{ConcludeNumbers}
use Rattle.c_summaries.specs.Numbers.{summary_shown, conclude_shown, summary_read_back, conclude_read_back}
use Rattle.c_summaries.specs.Numbers as c_claims
use Rattle.c_summaries.proofs.Numbers as numbers_of_C
use Rattle.c_summaries.proofs.Asks as asks_of_C
use Rattle.requests.specs.SummaryFunctions.{AsksSummarizeC, MaySummarizeC, AsksCombineC, MayCombineC, AsksConcludeC, MayConcludeC, SummarizedOnC}
use Rattle.requests.proofs.SummaryFunctions as functions_of_C

-- The limits that are named below:
pub limits : (most_states ≡ 32) × (largest_number ≡ 18446744073709551615) × (most_places ≡ 64) × (longest_chunk ≡ 65536) × (many_chunks ≡ 8796093022208)
limits = (refl, refl, refl, refl, refl)

-- ---- TWO SUMMARIES COMBINED, without a rule
-- Where state q is led by two chunks: wherever the later leads what the earlier led q to.
pub leads_combined : (a b : Summary) (q p : ℕ) → q < most_states
    → p ∈ get_or (combine a b).leads q 0 ↔ (x : ℕ) × (x < most_states) × (x ∈ get_or a.leads q 0) × (p ∈ get_or b.leads x 0)
leads_combined = (summaries.claims).members

-- Combining is associative on all values, so every bracketing of the same summaries gives the same;
-- and every list of them but the empty one can be bracketed.
pub associative : Associative combine
associative = (summaries.claims).associative

pub bracketing : (x y : Bracketed Summary) → leaves x ≡ leaves y → value_of combine x ≡ value_of combine y
bracketing = (summaries.claims).bracketing

pub bracketed : (a : Summary) (s : List Summary) → (t : Bracketed Summary) × (leaves t ≡ a ∷ s)
bracketed = (summaries.claims).bracketed

module _ (t : Bracketed Summary) (a : Summary) (s : List Summary) (are : leaves t ≡ a ∷ s) where
  -- What they come to is whole exactly where none is broken, each begins where the one before it
  -- ends, and all are of one digest;
  pub whole : ((value_of combine t).broken ≡ 0) ↔ Joined a s
  whole = (summaries.claims).whole t a s are

  -- it goes from the first chunk of the first to the last of the last, with the first one's digest.
  pub span : ((value_of combine t).first ≡ a.first) × ((value_of combine t).end ≡ end_in a s) × ((value_of combine t).rule ≡ a.rule)
  span = (summaries.claims).span t a s are

-- Counts and bytes are added, and cut at 2^64 − 1.
pub counts : (t : Bracketed Summary) → capped (value_of combine t).count ≡ capped (counts_in (leaves t))
counts = (summaries.claims).counts

pub byte_counts : (t : Bracketed Summary) → capped (value_of combine t).bytes ≡ capped (bytes_in (leaves t))
byte_counts = (summaries.claims).bytes

-- ---- ONE CHUNK
-- On any judge it is refused with 20 without a rule, then with 12 and 13; a refusal carries zeros,
-- and is broken. Else the summary has its number and the next; 2^64 − 1, which has none after it,
-- is broken.
pub summarized : (j : Judge) (number : ℕ) (w : List ℕ) → SummarizedExactly j number w
summarized = (summaries.claims).summarized

-- Of a judge only the built rule is looked at.
pub any_judge : (j : Judge) (r : Rule) → j.built ≡ built_of r
    → ((number : ℕ) (w : List ℕ) → summarize_of j number w ≡ summarize_of (judge_of r) number w)
    × ((a : Summary) (chunks : ℕ) → conclude_of j a chunks ≡ conclude_of (judge_of r) a chunks)
any_judge = (summaryverdict.claims).any_judge

module _ (r : Rule) (takes : install_number r ≡ none) (number : ℕ) (w : List ℕ) where
  -- By a rule that installing accepts it is refused with 12 and 13 as everywhere,
  pub refuses : (summarize_of (judge_of r) number w).refusal ≡ chunk_number r.k w
  refuses = (summaryverdict.claims).refuses r takes number w

  -- and else it has, for each state, the delegates of the end set that document 01 gives to it at
  -- the place of that number, where chunk 0 is run from the delegates of initial states and any
  -- other from all starts;
  pub leads : (summarize_of (judge_of r) number w).refusal ≡ none
      → (summary_at r number w).leads
      ≡ list_from 0 most_states (λ q. delegate_set (starts_in r).delegates r.n (end_set r.targets (run_at r number) (text_of w) q))
  leads = (summaryverdict.claims).leads r takes number w

  -- its count, and the bytes of its text.
  pub count : (summarize_of (judge_of r) number w).refusal ≡ none → (summary_at r number w).count ≡ chunk_count r.targets (run_at r number) (text_of w)
  count = (summaryverdict.claims).count r takes number w

  pub bytes : (summarize_of (judge_of r) number w).refusal ≡ none → (summary_at r number w).bytes ≡ length (text_of w)
  bytes = (summaryverdict.claims).bytes r takes number w

-- 12 and 13 are given exactly where a delivery of the chunk to a board with that rule gives them.
pub as_delivered : (h : List Call) (r : Rule) → rule_there h ≡ some r → (p v : ℕ) → p < places_in h → (number : ℕ) (w : List ℕ)
    → (x : ℕ) → (x ≡ 12) ⊎ (x ≡ 13) → ((summarize_of (judge_of r) number w).refusal ≡ some x) ↔ (answer_of h (delivers p v w) ≡ refused x)
as_delivered = (summaryverdict.claims).as_delivered

-- ---- THE REPORT
-- On any judge it is refused with 20 without a rule; 42 where the summary is broken or not from
-- chunk 0; 43 where its digest is not that of the judge's rule; 44 where it is not of that many
-- chunks, or of none; in this order, and with no other number.
pub concluded : (j : Judge) (a : Summary) (chunks : ℕ) → ConcludedExactly j a chunks
concluded = (summaries.claims).concluded

-- The summaries of chunks numbered 0, 1, .. in order, in any brackets, concluded with their number:
-- yes exactly where the rule accepts their texts joined, else no; with the sum of their counts, cut
-- at 2^64 − 1, the bytes, quotient and remainder.
pub concludes : (r : Rule) (ws : List (List ℕ)) (t : Bracketed Summary) → Trace r ws t → Reports r ws (concluded_by r t (length ws))
concludes = (summaryverdict.claims).concludes

-- With fewer than 2^43 chunks nothing is cut off.
pub exact : (r : Rule) (ws : List (List ℕ)) → install_number r ≡ none → SummarizesAll r ws → length ws < many_chunks
    → (capped (count_of r ws) ≡ count_of r ws) × (capped (length (flatten (texts_of ws))) ≡ length (flatten (texts_of ws)))
exact = (summaryverdict.claims).exact

-- On a board with the same chunks it is the board's report, every field;
pub as_board : (h : List Call) (r : Rule) (ws : List (List ℕ)) → Filled h r ws → (t : Bracketed Summary) → leaves t ≡ summaries_from r 0 ws
    → concluded_by r t (length ws) ≡ report_in h
as_board = (summaryverdict.claims).as_board

-- what stands on one is not refused, and 1 to 64 chunks that are not fill one.
pub stands : (h : List Call) (r : Rule) (ws : List (List ℕ)) → Filled h r ws → SummarizesAll r ws
stands = (summaryverdict.claims).stands

pub fillings : (r : Rule) → install_number r ≡ none → (ws : List (List ℕ)) → 1 ≤ length ws → length ws ≤ most_places → SummarizesAll r ws
    → (h : List Call) × Filled h r ws
fillings = (summaryverdict.claims).fillings

-- ---- NEVER A WRONG YES
-- In whatever order and brackets summaries are combined that the rule made of whatever chunks,
-- under whatever numbers, refused ones too: a conclusion that is not refused is the report of the
-- chunks that were used, whose numbers are 0, 1, .. in order, each once, and none of which was
-- refused.
pub used : (r : Rule) → install_number r ≡ none → (ps : List Numbered) (t : Bracketed Summary) → leaves t ≡ made_by r ps
    → (chunks : ℕ) → refusal_in (concluded_by r t chunks).verdict ≡ none → Used r ps chunks (concluded_by r t chunks)
used = (summaryverdict.claims).used

-- A trace by a rule with another digest is refused with 43; and where summaries are concluded, of
-- whatever values, all have the digest of the judge's rule.
pub other_rule_lem : (r s : Rule) → install_number r ≡ none → (digest_of (built_of s) ≡ digest_of (built_of r) → ⊥)
    → (ws : List (List ℕ)) (t : Bracketed Summary) → Trace s ws t → (chunks : ℕ) → (concluded_by r t chunks).verdict ≡ refused_with 43
other_rule_lem = (summaryverdict.claims).other_rule_lem

pub one_rule : (j : Judge) (t : Bracketed Summary) (chunks : ℕ) → refusal_in (conclude_of j (value_of combine t) chunks).verdict ≡ none
    → (i : ℕ) → i < length (leaves t) → (get_or (leaves t) i no_summary).rule ≡ digest_of j.built
one_rule = (summaries.claims).one_rule

-- A digest is a number of 64 bits; some worked by another program, that of rule A among them.
pub digest_64 : (b : Built) → digest_of b < 2 ^ 64
digest_64 = digest_laws.digest_below

pub digests : Digests cases
digests = digest_cases.digests

pub digest_A : DigestA
digest_A = examples.digest_A

-- ---- AFTER ANY LIST OF CALLS
-- it goes by the rule that is there, which is one that installing accepts; 20 where none is.
pub summarized_after : (h : List Call) (number : ℕ) (w : List ℕ) → summarize_of (judge_after h) number w ≡ summary_there (rule_there h) number w
summarized_after = (lists.list_claims).summarize

pub concluded_after : (h : List Call) (a : Summary) (chunks : ℕ) → conclude_of (judge_after h) a chunks ≡ conclude_there (rule_there h) a chunks
concluded_after = (lists.list_claims).conclude

pub installs_there : (h : List Call) (r : Rule) → rule_there h ≡ some r → install_number r ≡ none
installs_there = (lists.list_claims).installs

-- ---- THE FUNCTIONS
-- `summarize` and `conclude`, on a judge that a list of calls through the judge's functions left,
-- answer so, and `combine` combines.
pub summarize_says : (h : List Call) (rs : List Reply) (j : Judge) → Execution judge_library h rs j
    → (number : ℕ) (w : List ℕ) (x : Result Summary Refusal) → MaySummarize j number w x → summary_outcome x ≡ summary_there (rule_there h) number w
summarize_says = (functions.function_claims).summarize

pub combine_says : (a b c : Summary) → MayCombine a b c ↔ (c ≡ combine a b)
combine_says = (functions.function_claims).combine_fixed

pub conclude_says : (h : List Call) (rs : List Reply) (j : Judge) → Execution judge_library h rs j
    → (a : Summary) (chunks : ℕ) (x : Report) → MayConclude j a chunks x → report_means x ≡ conclude_there (rule_there h) a chunks
conclude_says = (functions.function_claims).conclude

-- Whoever summarizes through them, on whatever machines on which the rule is there, combines in any
-- brackets and concludes where the rule is there, gets the report of the chunks that were used, or
-- a refusal;
pub gathered_used : (r : Rule) (ps : List Numbered) (a : Summary) → Gathered (SummarizedOn r) MayCombine ps a
    → (h : List Call) (rs : List Reply) (j : Judge) → Execution judge_library h rs j → rule_there h ≡ some r
    → (chunks : ℕ) (x : Report) → MayConclude j a chunks x → refusal_in (report_means x).verdict ≡ none
    → Used r ps chunks (report_means x)
gathered_used = (functions.function_claims).used

-- and the report where the chunks are numbered in order and none is refused.
pub gathered_reports : (r : Rule) (ws : List (List ℕ)) (a : Summary) → Gathered (SummarizedOn r) MayCombine (numbered_from 0 ws) a
    → SummarizesAll r ws → length ws ≤ largest_number
    → (h : List Call) (rs : List Reply) (j : Judge) → Execution judge_library h rs j → rule_there h ≡ some r
    → (x : Report) → MayConclude j a (length ws) x → Reports r ws (report_means x)
gathered_reports = (functions.function_claims).reports

-- They ask nothing.
pub summarize_asks : (κs : Lfts 1) (j : Judge) (number : ℕ) (c : Bor (List ℕ)) → summarize_reads.Asked κs (j, (number, (c, tt)))
summarize_asks = (functions.function_claims).summarize_asks

pub combine_asks : (a b : Summary) → combine_reads.Asked tt (a, (b, tt))
combine_asks = (functions.function_claims).combine_asks

pub conclude_asks : (j : Judge) (a : Summary) (chunks : ℕ) → conclude_reads.Asked tt (j, (a, (chunks, tt)))
conclude_asks = (functions.function_claims).conclude_asks

-- ---- THOSE THAT C LINKS
-- They fix every number of their results, on any judge and any summary whatever,
pub any_summary : (j : Judge) (number : ℕ) (w : List ℕ) (n : SummaryNumbers) → MaySummarizeC j number w n ↔ n ≡ summary_shown (summarize_of j number w)
any_summary = functions_of_C.summarize_fixed

pub any_combination : (a b c : Summary) → MayCombineC a b c ↔ c ≡ combine a b
any_combination = functions_of_C.combine_fixed

pub any_conclusion : (j : Judge) (a : Summary) (chunks : ℕ) (n : ConcludeNumbers) → MayConcludeC j a chunks n ↔ n ≡ conclude_shown (conclude_of j a chunks)
any_conclusion = functions_of_C.conclude_fixed

-- and ask nothing.
pub summarize_asks_nothing : (κs : Lfts 1) (j : Judge) (number : ℕ) (c : Bor (List ℕ)) → AsksSummarizeC κs j number c
summarize_asks_nothing = asks_of_C.summarize_asks_nothing

pub combine_asks_nothing : (a b : Summary) → AsksCombineC a b
combine_asks_nothing = asks_of_C.combine_asks_nothing

pub conclude_asks_nothing : (j : Judge) (a : Summary) (chunks : ℕ) → AsksConcludeC j a chunks
conclude_asks_nothing = asks_of_C.conclude_asks_nothing

-- So on a judge that a list of calls through C's functions left their numbers are those of the rule
-- there.
pub summary_from_C : (h : List Call) (rs : List Reply) (j : Judge) → Execution c_library h rs j
    → (number : ℕ) (w : List ℕ) (n : SummaryNumbers) → MaySummarizeC j number w n → n ≡ summary_shown (summary_there (rule_there h) number w)
summary_from_C = functions_of_C.summarize_there

pub conclusion_from_C : (h : List Call) (rs : List Reply) (j : Judge) → Execution c_library h rs j
    → (a : Summary) (chunks : ℕ) (n : ConcludeNumbers) → MayConcludeC j a chunks n → n ≡ conclude_shown (conclude_there (rule_there h) a chunks)
conclusion_from_C = functions_of_C.conclude_there_lem

module _ (r : Rule) (h : List Call) (rs : List Reply) (j : Judge) (ran : Execution c_library h rs j) (there : rule_there h ≡ some r)
    (a : Summary) (chunks : ℕ) (n : ConcludeNumbers) (may : MayConcludeC j a chunks n)
    (ps : List Numbered) (came : Gathered (SummarizedOnC r) MayCombineC ps a) where
  -- Whoever uses them on many machines gets the report of the chunks that were used, or a refusal,
  -- which is kind 0:
  pub used_from_C : (n.kind ≡ 0 → ⊥) → (x : Reported) × Used r ps chunks x × (n ≡ conclude_shown x)
  used_from_C = functions_of_C.used r h rs j ran there a chunks n may ps came

  -- a yes, which is kind 2, says that the chunks are numbered 0, 1, .. in order, that none was
  -- refused, and that the rule accepts their texts joined;
  pub no_wrong_yes : n.kind ≡ 2 → (numbers_of ps ≡ list_from 0 chunks (λ i. i)) × SummarizesAll r (chunks_of ps) × Accepts (automaton_of r) (flatten (texts_of (chunks_of ps)))
  no_wrong_yes = functions_of_C.no_wrong_yes r h rs j ran there a chunks n may ps came

-- and chunks that are so get their report.
pub reports_from_C : (r : Rule) (ws : List (List ℕ)) (a : Summary) → Gathered (SummarizedOnC r) MayCombineC (numbered_from 0 ws) a
    → SummarizesAll r ws → length ws ≤ largest_number
    → (h : List Call) (rs : List Reply) (j : Judge) → Execution c_library h rs j → rule_there h ≡ some r
    → (n : ConcludeNumbers) → MayConcludeC j a (length ws) n → (x : Reported) × Reports r ws x × (n ≡ conclude_shown x)
reports_from_C = functions_of_C.reports

-- Of their numbers nothing is lost.
pub summary_back : (s : Summarized) → summary_read_back (summary_shown s) ≡ s
summary_back = (numbers_of_C.claims).summary_back

pub report_back : (r : Reported) → conclude_read_back (conclude_shown r) ≡ r
report_back = (numbers_of_C.claims).report_back

-- Each of C's numbers in other words than the definition's: accepted and refused, the
-- summary, the kinds of a verdict.
pub each_number : c_claims.Claims
each_number = numbers_of_C.claims
