-- The one proof of all that specs/Traces.antt claims. Assumes nothing.
use mathlib.Core.Path.{◌≡◌, sym, ap, ◌∙◌}
use mathlib.Core.List.{List}
use Prim.Native.Nat.{ℕ}
use Rattle.automaton.specs.declared.Rule.{Rule}
use Rattle.build.specs.declared.Built.{Built}
use Rattle.build.specs.mirror.Building.{built_of}
use Rattle.calls.specs.declared.Judge.{Judge}
use Rattle.histories.proofs.Steps.{accepted_rule}
use Rattle.fillings.proofs.Claims as fillings
use Rattle.summaries.specs.declared.Summary.{Summary}
use Rattle.summaries.specs.Summaries.{summary_number, summarize_of, conclude_number, conclude_of}
use Rattle.summaryverdict.specs.Traces.{judge_of, Claims}
use Rattle.summaryverdict.proofs.Answers as answers
use Rattle.summaryverdict.proofs.Traces as traces
use Rattle.summaryverdict.proofs.Concluding as concluding
use Rattle.summaryverdict.proofs.Using as usage
use Rattle.summaryverdict.proofs.Boards as boards

any_judge : (j : Judge) (r : Rule) → j.built ≡ built_of r
    → ((number : ℕ) (w : List ℕ) → summarize_of j number w ≡ summarize_of (judge_of r) number w)
    × ((a : Summary) (chunks : ℕ) → conclude_of j a chunks ≡ conclude_of (judge_of r) a chunks)
unfolding summarize_of summary_number conclude_of conclude_number
any_judge j r e = (
  (λ number w. ap (λ (b : Built). summarize_of (record { built = b; board = j.board }) number w) e),
  λ a chunks. ap (λ (b : Built). conclude_of (record { built = b; board = j.board }) a chunks) e,
)

pub claims : Claims
claims = record {
  any_judge = any_judge;
  refuses = λ r takes. let x = accepted_rule r takes in answers.refuses r x.0 x.1;
  leads = λ r takes. let x = accepted_rule r takes in answers.leads r x.0 x.1;
  count = λ r takes. let x = accepted_rule r takes in answers.count r x.0 x.1;
  bytes = λ r takes. let x = accepted_rule r takes in answers.bytes r x.0 x.1;
  concludes = concluding.concludes;
  exact = λ r ws takes runs l.
      let x = accepted_rule r takes in
      (traces.few_counts r x.0 x.1 ws runs l, traces.few_bytes r x.0 x.1 ws runs l);
  used = λ r takes ps t e chunks ok. usage.used r takes t chunks ok ps e;
  other_rule_lem = concluding.other_rule_lem;
  as_board = boards.as_board;
  stands = boards.stands;
  fillings = λ r takes ws one most ok.
      let x = accepted_rule r takes in
      (fillings.claims).fillings r takes ws one most (λ i b. sym (answers.refuses r x.0 x.1 i _) ∙ ok i b);
  as_delivered = boards.as_delivered;
}
