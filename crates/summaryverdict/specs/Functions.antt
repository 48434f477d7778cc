-- The functions, by their own contracts as the checker reads them (`Reads.Learnt`): what
-- `summarize`, `combine` and `conclude` may return, on judges that calls through the judge's
-- functions left, and what whoever summarizes on many machines, combines in any brackets and
-- concludes gets. proofs/Functions.antt proves `FunctionClaims`.
--
--   MaySummarize, MayCombine, MayConclude   what the functions may return for their arguments
--   Gathered Makes Puts ps a   the numbered chunks ps, in this order, were summarized one by one,
--                      the summaries combined two at a time, in any way, and came to a; `Makes`
--                      says what summarizing a chunk may give, and `Puts` what combining may
--   SummarizedOn r     on some machine calls were made after which the rule r is there, and the
--                      function gave this summary
--   numbered_from p ws  the chunks ws, numbered from p on
use Rattle.std.specs.Prelude.{Result, ◌≡◌, ◌↔◌, List, [], ◌∷◌, ◌++◌, ℕ, suc, ◌≤◌, length}
use Rattle.std.proofs.Math.Option.{none, some}
use contract.Lifetimes.{Lfts}
use Rattle.std.specs.Borrow.{Bor}
use denote.Triple.Clauses.{AtExit}
use borrow.Fn.Kinds.{ended_of}
use Rattle.base.specs.declared.Refusal.{Refusal}
use Rattle.limits.specs.Limits.{largest_number}
use Rattle.automaton.specs.declared.Rule.{Rule}
use Rattle.executions.specs.Executions.{Execution}
use Rattle.calls.specs.declared.Judge.{Judge}
use Rattle.calls.specs.declared.Report.{Report}
use Rattle.calls.specs.Replies.{Reply, refusal_in, report_means}
use Rattle.calls.specs.Calls.{Call}
use Rattle.histories.specs.History.{rule_there}
use Rattle.histories.specs.Functions.{judge_library}
use Rattle.summaries.specs.declared.Summary.{Summary}
use Rattle.summaries.specs.Summaries.{combine, summary_outcome}
use Rattle.summaries.proofs.summarize.Reads as summarize_reads
use Rattle.summaries.proofs.summarize.Kinds as summarize_kinds
use Rattle.summaries.proofs.combine.Reads as combine_reads
use Rattle.summaries.proofs.combine.Kinds as combine_kinds
use Rattle.summaries.proofs.conclude.Reads as conclude_reads
use Rattle.summaries.proofs.conclude.Kinds as conclude_kinds
use Rattle.summaryverdict.specs.Traces.{Numbered, SummarizesAll, Reports, Used}
use Rattle.summaryverdict.specs.Lists.{summary_there, conclude_there}

-- a chunk is lent, as a reference to its bytes
abbrev pub MaySummarize : Judge → ℕ → List ℕ → Result Summary Refusal → Type 0
MaySummarize j number w r =
    (κs : Lfts 1) × (c : Bor (List ℕ)) × (s : AtExit (ended_of 1 summarize_kinds.ps summarize_kinds.r) κs) × (c.now ≡ w)
    × summarize_reads.Learnt κs (j, (number, (c, tt))) r s

abbrev pub MayCombine : Summary → Summary → Summary → Type 0
MayCombine a b c = (s : AtExit (ended_of 0 combine_kinds.ps combine_kinds.r) tt) × combine_reads.Learnt tt (a, (b, tt)) c s

abbrev pub MayConclude : Judge → Summary → ℕ → Report → Type 0
MayConclude j a chunks r = (s : AtExit (ended_of 0 conclude_kinds.ps conclude_kinds.r) tt) × conclude_reads.Learnt tt (j, (a, (chunks, tt))) r s

pub data Gathered (Makes : ℕ → List ℕ → Summary → Type 0) (Puts : Summary → Summary → Summary → Type 0) : List Numbered → Summary → Type 0 where
  one : (number : ℕ) (w : List ℕ) (a : Summary) → Makes number w a → Gathered Makes Puts (record { number = number; chunk = w } ∷ []) a
  put : {ps qs : List Numbered} {a b : Summary} (c : Summary) → Gathered Makes Puts ps a → Gathered Makes Puts qs b → Puts a b c
      → Gathered Makes Puts (ps ++ qs) c

abbrev pub SummarizedOn : Rule → ℕ → List ℕ → Summary → Type 0
SummarizedOn r number w a =
    (h : List Call) × (rs : List Reply) × (j : Judge) × (x : Result Summary Refusal)
    × Execution judge_library h rs j × (rule_there h ≡ some r) × MaySummarize j number w x × (a ≡ (summary_outcome x).summary)

unfoldable pub numbered_from : ℕ → List (List ℕ) → List Numbered
numbered_from p [] = []
numbered_from p (w ∷ ws) = record { number = p; chunk = w } ∷ numbered_from (suc p) ws

pub record FunctionClaims : Type 0 where
  -- ---- each function
  pub summarize : (h : List Call) (rs : List Reply) (j : Judge) → Execution judge_library h rs j
      → (number : ℕ) (w : List ℕ) (x : Result Summary Refusal) → MaySummarize j number w x → summary_outcome x ≡ summary_there (rule_there h) number w
  pub combine_fixed : (a b c : Summary) → MayCombine a b c ↔ (c ≡ combine a b)
  pub conclude : (h : List Call) (rs : List Reply) (j : Judge) → Execution judge_library h rs j
      → (a : Summary) (chunks : ℕ) (x : Report) → MayConclude j a chunks x → report_means x ≡ conclude_there (rule_there h) a chunks
  -- ---- all of them: whatever chunks were summarized by the rule r, wherever, in whatever brackets
  -- their summaries were combined, a conclusion by that rule that is not refused is their report,
  -- and they are numbered 0, 1, .. in order
  pub used : (r : Rule) (ps : List Numbered) (a : Summary) → Gathered (SummarizedOn r) MayCombine ps a
      → (h : List Call) (rs : List Reply) (j : Judge) → Execution judge_library h rs j → rule_there h ≡ some r
      → (chunks : ℕ) (x : Report) → MayConclude j a chunks x → refusal_in (report_means x).verdict ≡ none
      → Used r ps chunks (report_means x)
  -- and chunks that are numbered so, none of which is refused, get their report
  pub reports : (r : Rule) (ws : List (List ℕ)) (a : Summary) → Gathered (SummarizedOn r) MayCombine (numbered_from 0 ws) a
      → SummarizesAll r ws → length ws ≤ largest_number
      → (h : List Call) (rs : List Reply) (j : Judge) → Execution judge_library h rs j → rule_there h ≡ some r
      → (x : Report) → MayConclude j a (length ws) x → Reports r ws (report_means x)
  -- ---- they ask nothing
  pub summarize_asks : (κs : Lfts 1) (j : Judge) (number : ℕ) (c : Bor (List ℕ)) → summarize_reads.Asked κs (j, (number, (c, tt)))
  pub combine_asks : (a b : Summary) → combine_reads.Asked tt (a, (b, tt))
  pub conclude_asks : (j : Judge) (a : Summary) (chunks : ℕ) → conclude_reads.Asked tt (j, (a, (chunks, tt)))
