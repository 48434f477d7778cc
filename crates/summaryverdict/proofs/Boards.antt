-- A filled board with the same chunks reports the same. Assumes nothing.
use mathlib.Core.Path.{◌≡◌, sym, ap, ◌∙◌, subst}
use mathlib.Core.Logic.{◌↔◌, ◌⊎◌}
use mathlib.Core.Bool.{Bool, true, cond}
use mathlib.Core.List.{List, [], flatten}
use mathlib.Core.Option.{some}
use Prim.Native.Nat.{ℕ, ◌≤◌, ◌<◌}
use native.Mathlib.Omega.{arith}
use lib.ListN.{length, get_or}
use borrow.Author.Tests.{eq-eqb, ne_eqb}
use Rattle.base.specs.Totals.{total}
use Rattle.base.proofs.Tests.{same_truth}
use Rattle.base.proofs.Totals.{total_same}
use Rattle.masks.specs.Masks.{shares}
use Rattle.compositions.specs.Bracketing.{Bracketed, leaves, value_of}
use Rattle.automaton.specs.declared.Rule.{Rule}
use Rattle.automaton.specs.Automaton.{Accepts}
use Rattle.automaton.specs.Rules.{automaton_of, WellFormed}
use Rattle.subsets.specs.Claims.{fits}
use Rattle.build.specs.mirror.Building.{built_of}
use Rattle.chunks.specs.Chunks.{chunk_count}
use Rattle.calls.specs.Replies.{Judgement, yes_with, no_with, refused}
use Rattle.calls.specs.Calls.{Call, delivers, report_by}
use Rattle.histories.specs.History.{rule_there, rule_in, places_in, standing, run_at, count_at, count_of as counted_by, empties_in, summed_in, bytes_in, yes_in, text_in, verdict_in, report_in, answer_of}
use Rattle.histories.proofs.EveryList.{every_list, good}
use Rattle.histories.proofs.VerdictClauses.{there}
use Rattle.fillings.specs.Filled.{Filled}
use Rattle.fillings.proofs.Boards as boards
use Rattle.fillings.proofs.Claims as fillings
use Rattle.summaries.specs.declared.Summary.{Summary}
use Rattle.summaries.specs.Summaries.{combine, summarize_of, reached_by}
use Rattle.summaryverdict.specs.Traces.{judge_of, texts_of, summaries_from, SummarizesAll, count_of, Trace, concluded_by}
use Rattle.summaryverdict.proofs.Answers as answers
use Rattle.summaryverdict.proofs.Traces as traces
use Rattle.summaryverdict.proofs.Concluding.{report_is}

module _ (h : List Call) (r : Rule) (ws : List (List ℕ)) (is : Filled h r ws) where
  well : WellFormed r
  well = ((fillings.claims).well h r is.rule).0

  fit : fits r
  fit = ((fillings.claims).well h r is.rule).1

  pub stands : SummarizesAll r ws
  stands p b = answers.refuses r well fit p (get_or ws p []) ∙ boards.taken h r ws is p b

  few : length ws ≤ 64
  few = subst (λ (x : ℕ). x ≤ 64) is.places (good h).few

  summed : summed_in h ≡ count_of r ws
  summed =
      ap (total (count_at h)) is.places
      ∙ total_same (count_at h) (λ p. chunk_count r.targets (run_at r p) (get_or (texts_of ws) p [])) (length ws)
      (λ p b.
      ap (λ (x : Rule). counted_by x p (standing h p)) (boards.rule_is h r ws is)
      ∙ ap (counted_by r p) (is.stands p b)
      ∙ ap (chunk_count r.targets (run_at r p)) (sym (traces.text_at ws p b)))
      ∙ ap (total (λ p. chunk_count r.targets (run_at r p) (get_or (texts_of ws) p []))) (sym (traces.texts_length ws))

  bytes : bytes_in h ≡ length (flatten (texts_of ws))
  bytes = (every_list h).report.text_bytes ∙ ap length (boards.text_is h r ws is)

  module _ (t : Bracketed Summary) (are : leaves t ≡ summaries_from r 0 ws) where
    trace : Trace r ws t
    trace = record { takes = (fillings.claims).installs h r is.rule; runs = stands; within = omega (arith, few); are = are }

    abbrev says : Bool
    says = shares (reached_by (built_of r) (value_of combine t)) r.finals

    by_text : (says ≡ true) ↔ Accepts (automaton_of (rule_in h)) (text_in h)
    by_text = rw (boards.rule_is h r ws is, boards.text_is h r ws is) (traces.yes_law r well fit ws stands t are)

    same_yes : says ≡ yes_in h
    same_yes =
        let none_missing = boards.none_missing h r ws is in
        let board = (every_list h).verdict.accepts is.board none_missing in
        let join = (every_list h).verdict.joins is.board none_missing in
        same_truth says (yes_in h) ((λ e. join.0 (board.1 (by_text.0 e))), λ e. by_text.1 (board.0 (join.1 e)))

    same_count : (value_of combine t).count ≡ summed_in h
    same_count = traces.count-is r well fit ws stands t are ∙ traces.few_counts r well fit ws stands (omega (arith, few)) ∙ sym summed

    same_bytes : (value_of combine t).bytes ≡ bytes_in h
    same_bytes = traces.bytes-is r well fit ws stands t are ∙ traces.few_bytes r well fit ws stands (omega (arith, few)) ∙ sym bytes

    by_verdict : verdict_in h ≡ cond (yes_in h) (yes_with (summed_in h)) (no_with (summed_in h))
    by_verdict =
        rw (ne_eqb (places_in h) 0 (λ z. omega (arith, there h is.board)), eq-eqb (empties_in h) 0 (boards.none_missing h r ws is))

    pub as_board : concluded_by r t (length ws) ≡ report_in h
    as_board =
        report_is r ws t trace
        ∙ rw (same_yes, same_count, same_bytes) (ap (λ (v : Judgement). report_by v (bytes_in h)) (sym by_verdict))

-- ---- running
pub as_delivered : (h : List Call) (r : Rule) → rule_there h ≡ some r → (p v : ℕ) → p < places_in h → (number : ℕ) (w : List ℕ)
    → (x : ℕ) → (x ≡ 12) ⊎ (x ≡ 13) → ((summarize_of (judge_of r) number w).refusal ≡ some x) ↔ (answer_of h (delivers p v w) ≡ refused x)
as_delivered h r rule p v below number w x o =
    let well = (fillings.claims).well h r rule in
    rw (answers.refuses r well.0 well.1 number w) ((fillings.claims).as_delivered h r rule p v below w x o)
