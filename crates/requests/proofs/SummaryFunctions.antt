-- The contracts of the functions for summaries, for C, fix every number of a result; and whoever
-- summarizes, combines and concludes through them gets the report of the chunks. Assumes nothing.
use mathlib.Core.Path.{◌≡◌, refl, sym, ap, ◌∙◌}
use mathlib.Core.Logic.{◌↔◌, ⊎_elim}
use mathlib.Core.List.{List, [], flatten}
use mathlib.Core.Option.{Option, none, some}
use Prim.Native.Nat.{ℕ, ◌≤◌}
use native.Mathlib.Omega.{arith}
use lib.ListN.{length}
use Rattle.base.specs.Lists.{list_from}
use Rattle.automaton.specs.declared.Rule.{Rule}
use Rattle.automaton.specs.Automaton.{Accepts}
use Rattle.automaton.specs.Rules.{automaton_of}
use Rattle.executions.specs.Executions.{Execution}
use Rattle.calls.specs.declared.Judge.{Judge}
use Rattle.calls.specs.Replies.{Judgement, waiting, yes_with, no_with, refused_with, refusal_in, Reply, Reported}
use Rattle.calls.specs.Calls.{Call}
use Rattle.histories.specs.History.{rule_there}
use Rattle.histories.specs.Claims.{judge_after}
use Rattle.histories.proofs.Refinement.{lent}
use Rattle.demands.specs.Functions.{c_library}
use Rattle.demands.proofs.Histories.{every_execution_from_C}
use Rattle.summaries.specs.declared.Summary.{Summary}
use Rattle.summaries.specs.Summaries.{combine, summarize_of, conclude_of}
use Rattle.summaryverdict.specs.Traces.{judge_of, texts_of, Numbered, numbers_of, chunks_of, summary_at, SummarizesAll, Reports, Used}
use Rattle.summaryverdict.specs.Lists.{summary_there, conclude_there}
use Rattle.summaryverdict.specs.Functions.{Gathered, numbered_from}
use Rattle.summaryverdict.proofs.Lists.{list_claims}
use Rattle.summaryverdict.proofs.Gathering.{gathered_used, gathered_reports}
use Rattle.c_summaries.specs.declared.SummaryNumbers.{SummaryNumbers}
use Rattle.c_summaries.specs.declared.ConcludeNumbers.{ConcludeNumbers}
use Rattle.verdicts.specs.Shown.{kind_of}
use Rattle.c_summaries.specs.Numbers.{summary_shown, conclude_shown}
use Rattle.requests.specs.SummaryFunctions.{MaySummarizeC, MayCombineC, MayConcludeC, SummarizedOnC}

-- ---- what each function may return
pub summarize_fixed : (j : Judge) (number : ℕ) (w : List ℕ) (n : SummaryNumbers) → MaySummarizeC j number w n ↔ n ≡ summary_shown (summarize_of j number w)
summarize_fixed j number w n = (
  (λ m. m.4 ∙ ap (λ (v : List ℕ). summary_shown (summarize_of j number v)) m.3),
  λ e. (([], tt), lent w, (j, (number, (lent w, tt))), refl, e),
)

pub combine_fixed : (a b c : Summary) → MayCombineC a b c ↔ c ≡ combine a b
combine_fixed a b c = ((λ m. m.1), λ e. ((a, (b, tt)), e))

pub conclude_fixed : (j : Judge) (a : Summary) (chunks : ℕ) (n : ConcludeNumbers) → MayConcludeC j a chunks n ↔ n ≡ conclude_shown (conclude_of j a chunks)
conclude_fixed j a chunks n = ((λ m. m.1), λ e. ((j, (a, (chunks, tt))), e))

-- ---- on a judge that calls left
module _ (h : List Call) (rs : List Reply) (j : Judge) (ran : Execution c_library h rs j) where
  is : j ≡ judge_after h
  is = ((every_execution_from_C h rs j).0 ran).1

  pub summarize_there : (number : ℕ) (w : List ℕ) (n : SummaryNumbers) → MaySummarizeC j number w n → n ≡ summary_shown (summary_there (rule_there h) number w)
  summarize_there number w n m =
      (summarize_fixed j number w n).0 m
      ∙ ap summary_shown (ap (λ (k : Judge). summarize_of k number w) is ∙ list_claims.summarize h number w)

  pub conclude_there_lem : (a : Summary) (chunks : ℕ) (n : ConcludeNumbers) → MayConcludeC j a chunks n → n ≡ conclude_shown (conclude_there (rule_there h) a chunks)
  conclude_there_lem a chunks n m =
      (conclude_fixed j a chunks n).0 m
      ∙ ap conclude_shown (ap (λ (k : Judge). conclude_of k a chunks) is ∙ list_claims.conclude h a chunks)

-- ---- all of them
made_so : (r : Rule) (number : ℕ) (w : List ℕ) (a : Summary) → SummarizedOnC r number w a → a ≡ summary_at r number w
made_so r number w a m =
    m.7
    ∙ ap (λ (n : SummaryNumbers). n.summary) (summarize_there m.0 m.1 m.2 m.4 number w m.3 m.6)
    ∙ ap (λ (o : Option Rule). (summary_there o number w).summary) m.5

not_refused : (v : Judgement) → (kind_of v ≡ 0 → ⊥) → refusal_in v ≡ none
not_refused (waiting e) n = refl
not_refused (yes_with c) n = refl
not_refused (no_with c) n = refl
not_refused (refused_with x) n = absurd (n refl)

module _ (r : Rule) (h : List Call) (rs : List Reply) (j : Judge) (ran : Execution c_library h rs j) (there : rule_there h ≡ some r)
    (a : Summary) (chunks : ℕ) (n : ConcludeNumbers) (may : MayConcludeC j a chunks n) where
  concluded : n ≡ conclude_shown (conclude_of (judge_of r) a chunks)
  concluded = conclude_there_lem h rs j ran a chunks n may ∙ ap (λ (o : Option Rule). conclude_shown (conclude_there o a chunks)) there

  module _ (ps : List Numbered) (g : Gathered (SummarizedOnC r) MayCombineC ps a) where
    pub used : (n.kind ≡ 0 → ⊥) → (x : Reported) × Used r ps chunks x × (n ≡ conclude_shown x)
    used ok = (
      conclude_of (judge_of r) a chunks,
      gathered_used r (SummarizedOnC r) MayCombineC (made_so r) (λ x y z. (combine_fixed x y z).0) (list_claims.installs h r there) ps a g chunks
          (not_refused (conclude_of (judge_of r) a chunks).verdict (λ z. ok (ap (λ (m : ConcludeNumbers). m.kind) concluded ∙ z))),
      concluded,
    )

    pub no_wrong_yes : n.kind ≡ 2 → (numbers_of ps ≡ list_from 0 chunks (λ i. i)) × SummarizesAll r (chunks_of ps) × Accepts (automaton_of r) (flatten (texts_of (chunks_of ps)))
    no_wrong_yes e =
        let u = used (λ z. let two : ◌≡◌ {A = ℕ} 2 0 = sym e ∙ z in omega arith) in
        let report = u.1.report in
        let kind : kind_of u.0.verdict ≡ 2 = sym (ap (λ (m : ConcludeNumbers). m.kind) u.2) ∙ e in (
          u.1.in_order,
          u.1.runs,
          ⊎_elim (λ y. report.yes_exactly.0 y) (λ no-there. let z : ◌≡◌ {A = ℕ} 3 2 = sym (ap kind_of no-there) ∙ kind in absurd (omega arith)) report.either,
        )

pub reports : (r : Rule) (ws : List (List ℕ)) (a : Summary) → Gathered (SummarizedOnC r) MayCombineC (numbered_from 0 ws) a
    → SummarizesAll r ws → length ws ≤ 18446744073709551615
    → (h : List Call) (rs : List Reply) (j : Judge) → Execution c_library h rs j → rule_there h ≡ some r
    → (n : ConcludeNumbers) → MayConcludeC j a (length ws) n → (x : Reported) × Reports r ws x × (n ≡ conclude_shown x)
reports r ws a g runs few h rs j ran there n may = (
  conclude_of (judge_of r) a (length ws),
  gathered_reports r (SummarizedOnC r) MayCombineC (made_so r) (λ x y z. (combine_fixed x y z).0) (list_claims.installs h r there) ws a g runs few,
  concluded r h rs j ran there a (length ws) n may,
)
