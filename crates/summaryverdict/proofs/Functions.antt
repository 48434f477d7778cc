-- specs/Functions.antt proved. Assumes nothing.
use mathlib.Core.Path.{◌≡◌, sym, ap, ◌∙◌, subst}
use mathlib.Core.List.{List}
use mathlib.Core.Option.{Option, some}
use Prim.Native.Nat.{ℕ}
use Rattle.std.proofs.Common.{Result}
use Rattle.base.specs.declared.Refusal.{Refusal}
use Rattle.automaton.specs.declared.Rule.{Rule}
use Rattle.executions.specs.Executions.{Execution}
use Rattle.calls.specs.declared.Judge.{Judge}
use Rattle.calls.specs.declared.Report.{Report}
use Rattle.calls.specs.Replies.{Reply, Reported, refusal_in, report_means}
use Rattle.calls.specs.Calls.{Call}
use Rattle.histories.specs.History.{rule_there}
use Rattle.histories.specs.Functions.{judge_library}
use Rattle.histories.proofs.Refinement.{after_any_list}
use Rattle.summaries.specs.declared.Summary.{Summary}
use Rattle.summaries.specs.Summaries.{combine, Summarized, summary_outcome, summarize_of, conclude_of}
use Rattle.summaryverdict.specs.Traces.{judge_of, summary_at, Reports, Used}
use Rattle.summaryverdict.specs.Lists.{summary_there, conclude_there}
use Rattle.summaryverdict.specs.Functions.{MaySummarize, MayConclude, MayCombine, SummarizedOn, FunctionClaims}
use Rattle.summaryverdict.proofs.Lists.{list_claims}
use Rattle.summaryverdict.proofs.Gathering.{gathered_used, gathered_reports}

module _ (h : List Call) (rs : List Reply) (j : Judge) (ran : Execution judge_library h rs j) where
  summarize : (number : ℕ) (w : List ℕ) (x : Result Summary Refusal) → MaySummarize j number w x → summary_outcome x ≡ summary_there (rule_there h) number w
  summarize number w x m =
      m.4
      ∙ ap (λ (v : List ℕ). summarize_of j number v) m.3
      ∙ ap (λ (k : Judge). summarize_of k number w) ((after_any_list h rs j).0 ran).1
      ∙ list_claims.summarize h number w

  conclude : (a : Summary) (chunks : ℕ) (x : Report) → MayConclude j a chunks x → report_means x ≡ conclude_there (rule_there h) a chunks
  conclude a chunks x m =
      m.1 ∙ ap (λ (k : Judge). conclude_of k a chunks) ((after_any_list h rs j).0 ran).1 ∙ list_claims.conclude h a chunks

combined : (a b c : Summary) → MayCombine a b c → c ≡ combine a b
combined a b c m = m.1

made_so : (r : Rule) (number : ℕ) (w : List ℕ) (a : Summary) → SummarizedOn r number w a → a ≡ summary_at r number w
made_so r number w a m =
    m.7
    ∙ ap (λ (s : Summarized). s.summary) (summarize m.0 m.1 m.2 m.4 number w m.3 m.6)
    ∙ ap (λ (o : Option Rule). (summary_there o number w).summary) m.5

module _ (r : Rule) (h : List Call) (rs : List Reply) (j : Judge) (ran : Execution judge_library h rs j) (there : rule_there h ≡ some r) where
  concluded : (a : Summary) (chunks : ℕ) (x : Report) → MayConclude j a chunks x → report_means x ≡ conclude_of (judge_of r) a chunks
  concluded a chunks x m = conclude h rs j ran a chunks x m ∙ ap (λ (o : Option Rule). conclude_there o a chunks) there

pub function_claims : FunctionClaims
function_claims = record {
  summarize = summarize;
  combine_fixed = λ a b c. (combined a b c, λ e. ((a, (b, tt)), e));
  conclude = conclude;
  used = λ r ps a g h rs j ran there chunks x m ok.
      let is = concluded r h rs j ran there a chunks x m in
      subst (Used r ps chunks) (sym is)
      (gathered_used r (SummarizedOn r) MayCombine (made_so r) combined (list_claims.installs h r there) ps a g chunks
      (sym (ap (λ (y : Reported). refusal_in y.verdict) is) ∙ ok));
  reports = λ r ws a g runs few h rs j ran there x m.
      subst (Reports r ws) (sym (concluded r h rs j ran there a _ x m))
      (gathered_reports r (SummarizedOn r) MayCombine (made_so r) combined (list_claims.installs h r there) ws a g runs few);
  summarize_asks = λ κs j number c. tt;
  combine_asks = λ a b. tt;
  conclude_asks = λ j a chunks. tt;
}
