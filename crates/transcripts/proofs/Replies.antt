-- Document 01's answer to a call after the calls h is the one that the words give by what stands.
-- Assumes nothing.
use mathlib.Core.Path.{◌≡◌, refl, sym, ◌∙◌}
use mathlib.Core.Logic.Iff
use mathlib.Core.Logic.{◌↔◌, inl, inr, ⊎_elim}
use mathlib.Core.Bool.{true, false}
use mathlib.Core.List.{List}
use mathlib.Core.Option.{Option, none, some}
use Prim.Native.Nat.{ℕ, ◌<◌}
use native.Mathlib.Omega.{arith}
use lib.Dec.{eqb}
use borrow.Author.Tests.{eqb-false}
use Rattle.marks.specs.Marks.{text_of}
use Rattle.automaton.specs.Automaton.{Accepts}
use Rattle.automaton.specs.Rules.{automaton_of}
use Rattle.build.specs.mirror.Building.{built_of}
use Rattle.ruleformat.specs.Reader.{rule_of}
use Rattle.calls.specs.Replies.{Judgement, waiting, yes_with, no_with, judged, delivered}
use Rattle.calls.specs.Calls.{Call, installs, loads, opens, delivers, withdraws, asks_verdict}
use Rattle.histories.specs.History.{rule_from, rule_in, places_in, board_in, looked_of, report_in, text_in as text_by, answer_of, deliver_number}
use Rattle.histories.specs.Claims.{Says}
use Rattle.histories.proofs.Method.{method, method_bytes}
use Rattle.histories.proofs.Conditions.{delivered_law}
use Rattle.histories.proofs.EveryList.{every_list}
use Rattle.histories.proofs.VerdictSays.{in_words}
use Rattle.transcripts.specs.Standing.{Source, Standing, automaton_from, the_automaton, text_in}
use Rattle.transcripts.specs.Runs.{LookedUp}
use Rattle.transcripts.specs.Answers.{AcceptedBy, Reports, Value, Answers}
use Rattle.transcripts.specs.Agreement.{rule_for, Sound, Agree}
use Rattle.transcripts.proofs.Conditions.{refused_law, accepted_law, refusal_law, same_verdict}
use Rattle.transcripts.proofs.Sources.{looked_by_lem}
use Rattle.transcripts.proofs.Places.{ruled, sum_law, empties_same, text_same, accepts_same}

module _ (h : List Call) (s : Standing) (g : Agree h s) where
  -- ---- the verdict, where a board is there
  module _ (l : 0 < places_in h) where
    there : board_in h ≡ true
    there = (every_list h).verdict.board.1 l

    -- the report's verdict, and what a reply says
    says : (v : Judgement) → ((report_in h).verdict ≡ v) ↔ Says (judged (report_in h)) v
    says v = ((λ e. (report_in h, refl, e)), λ x. same_verdict x.1 ∙ x.2)

    accepts : Accepts (the_automaton s) (text_in s) ↔ Accepts (automaton_of (rule_in h)) (text_by h)
    accepts = rw (text_same h s g) (accepts_same h s g l (text_by h))

    reports : Reports s (report_in h)
    reports =
        let words = in_words h (judged (report_in h)) refl in
        let sum = sum_law h s g in
        let none_empty = empties_same h s g in
        record {
          waits = λ e. Iff.trans (says (waiting e)) (Iff.trans (words.says_waiting e) (
            (λ x. (x.1, x.2 ∙ sym none_empty)),
            λ x. (there, x.0, x.1 ∙ none_empty),
          ));
          says_yes_lem = λ c. Iff.trans (says (yes_with c)) (Iff.trans (words.says_yes_lem c) (
            (λ x. (none_empty ∙ x.1, (sum c).1 x.2, accepts.1 x.3)),
            λ x. (there, sym none_empty ∙ x.0, (sum c).0 x.1, accepts.0 x.2),
          ));
          says_no_lem = λ c. Iff.trans (says (no_with c)) (Iff.trans (words.says_no_lem c) (
            (λ x. (none_empty ∙ x.1, (sum c).1 x.2, λ y. x.3 (accepts.0 y))),
            λ x. (there, sym none_empty ∙ x.0, (sum c).0 x.1, λ y. x.2 (accepts.1 y)),
          ));
          divided = λ c e.
              let v = (every_list h).report.verdict in
              rw (text_same h s g) ((every_list h).report.divided c (⊎_elim (λ z. inl (sym v ∙ z)) (λ z. inr (sym v ∙ z)) e));
          zeros = λ e z. (every_list h).report.zeros e (inl (sym (every_list h).report.verdict ∙ z));
        }

    -- what an accepted delivery is answered
    looks : (p : ℕ) (w : List ℕ) → LookedUp (the_automaton s) p (text_of w) (looked_of (rule_in h) p w)
    looks p w = rw g.rule (of s.rule g.sound (ruled h s g l))
      where
        of : (o : Option Source) → Sound o → (o ≡ none → ⊥) → LookedUp (automaton_from o) p (text_of w) (looked_of (rule_from (rule_for o)) p w)
        of none e n = absurd (n refl)
        of (some x) e n = looked_by_lem x e p (text_of w)

  -- ---- an accepted call
  some_places : eqb s.places 0 ≡ false → 0 < places_in h
  some_places e = let n = eqb-false s.places 0 e in omega (arith, g.places)

  answered : (c : Call) → AcceptedBy s c → Value s c (answer_of h c)
  answered (installs r) x = let e = (accepted_law h s g (installs r)).1 x in (built_of r, method r e, rw e)
  answered (loads f) x = let e = (accepted_law h s g (loads f)).1 x in (built_of (rule_of f), method_bytes f e, rw e)
  answered (opens n) x = rw ((accepted_law h s g (opens n)).1 x)
  answered (delivers p v w) x =
      (looked_of (rule_in h) p w, rw ((accepted_law h s g (delivers p v w)).1 x), looks (some_places x.0.0) p w)
  answered (withdraws p) x = rw ((accepted_law h s g (withdraws p)).1 x)
  answered asks_verdict x = (report_in h, refl, reports (some_places x.0.0))

  -- R-2's number, of a delivery that is accepted
  pub looked_up_lem : (p v : ℕ) (w : List ℕ) (n : ℕ) → answer_of h (delivers p v w) ≡ delivered n → LookedUp (the_automaton s) p (text_of w) n
  looked_up_lem p v w n e =
      let x = (delivered_law (deliver_number h p v w) (looked_of (rule_in h) p w) n).0 e in
      rw x.1 (looks (some_places ((accepted_law h s g (delivers p v w)).0 x.0).0.0) p w)

  pub answers : (c : Call) → Answers s c (answer_of h c)
  answers c = record {
    refused_exactly = λ x. Iff.trans (refusal_law h c x) (refused_law h s g c x);
    answered = answered c;
  }
