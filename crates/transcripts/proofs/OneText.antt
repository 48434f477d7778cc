-- One text: a file loaded, a board of one place, a chunk there. The verdict says yes exactly when
-- the automaton in the file has an accepting run over the chunk's text. Assumes nothing.
use mathlib.Core.Path.{◌≡◌, refl, sym, ap, ◌∙◌, subst}
use mathlib.Core.Logic.{◌↔◌}
use mathlib.Core.List.{List, [], ◌∷◌}
use mathlib.Core.Option.{none, some}
use Prim.Native.Nat.{ℕ}
use native.Mathlib.Omega.{arith}
use Rattle.base.specs.Lists.{joined}
use Rattle.base.specs.Totals.{total}
use Rattle.marks.specs.Marks.{text_of}
use Rattle.automaton.specs.Automaton.{Accepts}
use Rattle.ruleformat.specs.Reader.{rule_of}
use Rattle.ruleformat.specs.Language.{automaton_in}
use Rattle.executions.specs.Executions.{Library, Execution, Meets}
use Rattle.executions.proofs.Executions.{execution_law}
use Rattle.calls.specs.declared.Judge.{Judge}
use Rattle.calls.specs.Replies.{Reply, yes_with, accepted, refusal_of}
use Rattle.calls.specs.Calls.{Call, loads, opens, delivers, asks_verdict, load_number, with_sets}
use Rattle.histories.specs.History.{rule_there, open_number, summed_in, answer_of, answers_to}
use Rattle.histories.specs.Claims.{judge_machine, Says}
use Rattle.histories.proofs.EveryList.{every_list}
use Rattle.transcripts.specs.Standing.{file, Standing, placed, standing_after}
use Rattle.transcripts.specs.Runs.{SumIs}
use Rattle.transcripts.specs.Claims.{VerdictIs}
use Rattle.transcripts.proofs.Agree.{by_number, agree}
use Rattle.transcripts.proofs.Places.{sum_law}
use Rattle.transcripts.proofs.Verdict.{verdict_is}

module _ (f : List ℕ) (v : ℕ) (w : List ℕ) where
  abbrev before : List Call
  before = delivers 0 v w ∷ opens 1 ∷ loads f ∷ []

  -- what stands then
  abbrev one_chunk : Standing
  one_chunk = record { rule = some (file f); places = 1; chunk = placed 0 (some w) (λ p. none); revision = placed 0 (some v) (λ p. none) }

  module _ (loaded : refusal_of (answer_of [] (loads f)) ≡ none) (taken : refusal_of (answer_of (opens 1 ∷ loads f ∷ []) (delivers 0 v w)) ≡ none) where
    read : load_number f ≡ none
    read = sym (by_number (load_number f) (with_sets (rule_of f)) refl) ∙ loaded

    opened : refusal_of (answer_of (loads f ∷ []) (opens 1)) ≡ none
    unfolding rule_there
    opened = by_number (open_number (loads f ∷ []) 1) accepted refl ∙ rw read

    stands : standing_after before (answers_to before) ≡ one_chunk
    unfolding standing_after answers_to
    stands = rw (taken, opened, loaded)

    says : ((c : ℕ) × Says (answer_of before asks_verdict) (yes_with c)) ↔ Accepts (automaton_in f) (text_of w)
    unfolding joined total
    says =
        let is : VerdictIs one_chunk (answer_of before asks_verdict) =
        subst (λ (s : Standing). VerdictIs s (answer_of before asks_verdict)) stands (verdict_is before (standing_after before (answers_to before)) (agree before)) in
        let sum = subst (λ (s : Standing). SumIs s (summed_in before)) stands ((sum_law before (standing_after before (answers_to before)) (agree before) (summed_in before)).1 refl) in
        ((λ x. ((is.says_yes_lem x.0).0 x.1).3), λ x. (summed_in before, (is.says_yes_lem (summed_in before)).1 (omega arith, refl, sum, x)))

  pub one_text : (l : Library Judge Call Reply) → Meets l judge_machine → (a d o r : Reply) (j : Judge)
      → Execution l (asks_verdict ∷ before) (a ∷ d ∷ o ∷ r ∷ []) j → refusal_of r ≡ none → refusal_of d ≡ none
      → ((c : ℕ) × Says a (yes_with c)) ↔ Accepts (automaton_in f) (text_of w)
  unfolding answers_to
  one_text l meets a d o r j e loaded taken =
      let is : (a ∷ d ∷ o ∷ r ∷ []) ≡ answers_to (asks_verdict ∷ before) =
      ((execution_law l judge_machine meets (asks_verdict ∷ before) (a ∷ d ∷ o ∷ r ∷ []) j).0 e).0 ∙ (every_list (asks_verdict ∷ before)).correct in
      let first : a ≡ answer_of before asks_verdict = cc in
      let second : d ≡ answer_of (opens 1 ∷ loads f ∷ []) (delivers 0 v w) = cc in
      let last : r ≡ answer_of [] (loads f) = cc in
      let law = says (sym (ap refusal_of last) ∙ loaded) (sym (ap refusal_of second) ∙ taken) in
      subst (λ (z : Reply). ((c : ℕ) × Says z (yes_with c)) ↔ Accepts (automaton_in f) (text_of w)) (sym first) law
