-- What the functions that C links for summaries ask and allow by their own contracts, as the
-- checker reads them (`Reads`): any result that the contract does not rule out.
-- crates/summaryverdict has the same for the functions that they call.
--
--   AsksSummarizeC, MaySummarizeC   `bellbadger_summarize`: before it is called on a judge, a
--                       number and a chunk, which is lent as a reference, and what it may return
--                       for them
--   AsksCombineC, MayCombineC       `bellbadger_summary_combine`: the same, for two summaries
--   AsksConcludeC, MayConcludeC     `bellbadger_summary_conclude`: the same, for a judge, a summary
--                       and a number of chunks
--   SummarizedOnC r     on some machine calls through C's functions were made after which the rule
--                       r is there, and the function gave this summary
use Rattle.std.specs.Prelude.{◌≡◌, List, ℕ}
use Rattle.std.proofs.Math.Option.{some}
use contract.Lifetimes.{Lfts}
use Rattle.std.specs.Borrow.{Bor}
use denote.Triple.Clauses.{AtExit}
use borrow.Fn.Kinds.{ended_of}
use Rattle.automaton.specs.declared.Rule.{Rule}
use Rattle.executions.specs.Executions.{Execution}
use Rattle.calls.specs.declared.Judge.{Judge}
use Rattle.calls.specs.Replies.{Reply}
use Rattle.calls.specs.Calls.{Call}
use Rattle.histories.specs.History.{rule_there}
use Rattle.summaries.specs.declared.Summary.{Summary}
use Rattle.c_summaries.specs.declared.SummaryNumbers.{SummaryNumbers}
use Rattle.c_summaries.specs.declared.ConcludeNumbers.{ConcludeNumbers}
use Rattle.c_summaries.proofs.bellbadger_summarize.Reads as summarize_reads
use Rattle.c_summaries.proofs.bellbadger_summarize.Kinds as summarize_kinds
use Rattle.c_summaries.proofs.bellbadger_summary_combine.Reads as combine_reads
use Rattle.c_summaries.proofs.bellbadger_summary_combine.Kinds as combine_kinds
use Rattle.c_summaries.proofs.bellbadger_summary_conclude.Reads as conclude_reads
use Rattle.c_summaries.proofs.bellbadger_summary_conclude.Kinds as conclude_kinds
use Rattle.demands.specs.Functions.{c_library}

abbrev pub AsksSummarizeC : Lfts 1 → Judge → ℕ → Bor (List ℕ) → Type 0
AsksSummarizeC κs j number c = summarize_reads.Asked κs (j, (number, (c, tt)))

abbrev pub MaySummarizeC : Judge → ℕ → List ℕ → SummaryNumbers → Type 0
MaySummarizeC j number w n =
    (κs : Lfts 1) × (c : Bor (List ℕ)) × (s : AtExit (ended_of 1 summarize_kinds.ps summarize_kinds.r) κs) × (c.now ≡ w)
    × summarize_reads.Learnt κs (j, (number, (c, tt))) n s

abbrev pub AsksCombineC : Summary → Summary → Type 0
AsksCombineC a b = combine_reads.Asked tt (a, (b, tt))

abbrev pub MayCombineC : Summary → Summary → Summary → Type 0
MayCombineC a b c = (s : AtExit (ended_of 0 combine_kinds.ps combine_kinds.r) tt) × combine_reads.Learnt tt (a, (b, tt)) c s

abbrev pub AsksConcludeC : Judge → Summary → ℕ → Type 0
AsksConcludeC j a chunks = conclude_reads.Asked tt (j, (a, (chunks, tt)))

abbrev pub MayConcludeC : Judge → Summary → ℕ → ConcludeNumbers → Type 0
MayConcludeC j a chunks n = (s : AtExit (ended_of 0 conclude_kinds.ps conclude_kinds.r) tt) × conclude_reads.Learnt tt (j, (a, (chunks, tt))) n s

abbrev pub SummarizedOnC : Rule → ℕ → List ℕ → Summary → Type 0
SummarizedOnC r number w a =
    (h : List Call) × (rs : List Reply) × (j : Judge) × (n : SummaryNumbers)
    × Execution c_library h rs j × (rule_there h ≡ some r) × MaySummarizeC j number w n × (a ≡ n.summary)
