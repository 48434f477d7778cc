-- What the reply to a verdict says, wherever in a list of calls it is asked. Assumes nothing.
use mathlib.Core.Path.{◌≡◌, refl, sym, ap, ◌∙◌}
use mathlib.Core.Logic.Iff
use mathlib.Core.Logic.{◌↔◌}
use mathlib.Core.Bool.{true, false}
use mathlib.Core.List.{List, [], ◌∷◌, ◌++◌}
use Prim.Native.Nat.{suc, ◌<◌}
use native.Mathlib.Omega.{arith}
use lib.Dec.{eqb}
use lib.ListN.{length}
use borrow.Author.Tests.{eqb-true, eqb-false}
use Rattle.base.proofs.Tests.{by_test, not_both}
use Rattle.automaton.specs.Automaton.{Accepts}
use Rattle.automaton.specs.Rules.{automaton_of}
use Rattle.executions.specs.Executions.{Library, Execution, Meets}
use Rattle.executions.proofs.Executions.{execution_law}
use Rattle.calls.specs.declared.Judge.{Judge}
use Rattle.calls.specs.Replies.{Reply, judged}
use Rattle.calls.specs.Calls.{Call, asks_verdict}
use Rattle.histories.specs.History.{board_in, rule_in, report_in, text_in as text_by, answer_of, answers_to}
use Rattle.histories.specs.Claims.{judge_machine}
use Rattle.histories.proofs.EveryList.{every_list}
use Rattle.histories.proofs.VerdictSays.{in_words}
use Rattle.transcripts.specs.Standing.{Standing, standing_after, the_automaton, text_in}
use Rattle.transcripts.specs.Claims.{VerdictIs}
use Rattle.transcripts.specs.Agreement.{Agree}
use Rattle.transcripts.proofs.Agree.{agree}
use Rattle.transcripts.proofs.Places.{sum_law, empties_same, text_same, accepts_same}

module _ (h : List Call) (s : Standing) (g : Agree h s) where
  board_law : (board_in h ≡ true) ↔ (0 < s.places)
  board_law =
      let b = (every_list h).verdict.board in
      ((λ e. let l = b.0 e in omega (arith, g.places)), λ l. b.1 (omega (arith, g.places)))

  none_law : (board_in h ≡ false) ↔ (s.places ≡ 0)
  none_law = (
    (λ e. by_test (eqb s.places 0) (λ t. eqb-true s.places 0 t) (λ t. let n = eqb-false s.places 0 t in not_both (board_law.1 (omega arith)) e)),
    λ e. by_test (board_in h) (λ t. absurd (let l = board_law.0 t in omega arith)) (λ t. t),
  )

  accepts : 0 < s.places → Accepts (the_automaton s) (text_in s) ↔ Accepts (automaton_of (rule_in h)) (text_by h)
  accepts l = rw (text_same h s g) (accepts_same h s g (omega (arith, g.places)) (text_by h))

  pub verdict_is : VerdictIs s (answer_of h asks_verdict)
  verdict_is =
      let words = in_words h (judged (report_in h)) refl in
      let sum = sum_law h s g in
      let none_empty = empties_same h s g in
      record {
        says_yes_lem = λ c. Iff.trans (words.says_yes_lem c) (
          (λ x. let l = board_law.0 x.0 in (l, none_empty ∙ x.1, (sum c).1 x.2, (accepts l).1 x.3)),
          λ x. (board_law.1 x.0, sym none_empty ∙ x.1, (sum c).0 x.2, (accepts x.0).0 x.3),
        );
        says_no_lem = λ c. Iff.trans (words.says_no_lem c) (
          (λ x. let l = board_law.0 x.0 in (l, none_empty ∙ x.1, (sum c).1 x.2, λ y. x.3 ((accepts l).0 y))),
          λ x. (board_law.1 x.0, sym none_empty ∙ x.1, (sum c).0 x.2, λ y. x.3 ((accepts x.0).1 y)),
        );
        says_waiting = λ e. Iff.trans (words.says_waiting e) (
          (λ x. (board_law.0 x.0, x.1, x.2 ∙ sym none_empty)),
          λ x. (board_law.1 x.0, x.1, x.2 ∙ none_empty),
        );
        says_refused = λ x. Iff.trans (words.says_refused x) (
          (λ y. (y.0, none_law.0 y.1)),
          λ y. (y.0, none_law.1 y.1),
        );
      }

-- ---- a list cut at a call
many : (h : List Call) → length (answers_to h) ≡ length h
unfolding answers_to
many [] = refl
many (c ∷ h) = ap suc (many h)

cut : (later : List Call) (c : Call) (earlier : List Call)
    → (newer : List Reply) × (answers_to (later ++ (c ∷ earlier)) ≡ newer ++ (answer_of earlier c ∷ answers_to earlier))
unfolding answers_to
cut [] c earlier = ([], refl)
cut (d ∷ later) c earlier =
    let x = cut later c earlier in
    (answer_of (later ++ (c ∷ earlier)) d ∷ x.0, ap (λ (l : List Reply). answer_of (later ++ (c ∷ earlier)) d ∷ l) x.1)

-- a verdict that is asked after the calls `earlier` and before the calls `later`: its reply, those
-- given after it and those given before it
pub verdict_at : (l : Library Judge Call Reply) → Meets l judge_machine → (later earlier : List Call) (rs : List Reply) (j : Judge)
    → Execution l (later ++ (asks_verdict ∷ earlier)) rs j
    → (a : Reply) × (newer older : List Reply) × (rs ≡ newer ++ (a ∷ older)) × (length older ≡ length earlier) × VerdictIs (standing_after earlier older) a
verdict_at l meets later earlier rs j e =
    let h = later ++ (asks_verdict ∷ earlier) in
    let is = (execution_law l judge_machine meets h rs j).0 e in
    let x = cut later asks_verdict earlier in (
      answer_of earlier asks_verdict,
      x.0,
      answers_to earlier,
      is.0 ∙ (every_list h).correct ∙ x.1,
      many earlier,
      verdict_is earlier (standing_after earlier (answers_to earlier)) (agree earlier),
    )
