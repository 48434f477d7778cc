-- What the reply to a verdict says, wherever in a list of calls it is asked. Assumes nothing.
--
--   board_there_lem, none_empty  yes or no is said only where a board is there and no place is empty
--   verdict_at                the reply to a verdict that is asked among other calls
use mathlib.Core.Path.{◌≡◌, refl, sym, ap, ◌∙◌}
use mathlib.Core.Logic.Iff
use mathlib.Core.Logic.{◌↔◌, ◌⊎◌, inl, inr}
use mathlib.Core.Bool.{true}
use mathlib.Core.List.{List, ◌∷◌, ◌++◌}
use mathlib.Core.Option.{some}
use Prim.Native.Nat.{ℕ}
use native.Mathlib.Omega.{arith}
use lib.Dec.{eqb}
use lib.ListN.{length, get_elem?}
use borrow.Author.Tests.{eqb-true, eqb-false}
use Rattle.base.proofs.Tests.{by_test, zero_one}
use Rattle.executions.proofs.Executions.{reply_at}
use Rattle.calls.specs.Replies.{Judgement, Reported, Reply, judged, waiting, yes_with, no_with, refused_with}
use Rattle.calls.specs.Calls.{Call, asks_verdict}
use Rattle.histories.specs.History.{board_in, places_in, empties_in, summed_in, yes_in, verdict_in, report_in}
use Rattle.histories.specs.Claims.{judge_machine, replies_to, Says, VerdictSays}
use Rattle.histories.proofs.VerdictClauses.{refused_number}
use Rattle.histories.proofs.EveryList.{every_list, answer_after}

module _ (h : List Call) where
  module _ (c : ℕ) (v : (verdict_in h ≡ yes_with c) ⊎ (verdict_in h ≡ no_with c)) where
    pub board_there_lem : board_in h ≡ true
    board_there_lem = by_test (board_in h) (λ b. b) (λ b. never v ((every_list h).verdict.none_there.1 b))
      where
        never : {A : Type 0} → (verdict_in h ≡ yes_with c) ⊎ (verdict_in h ≡ no_with c) → verdict_in h ≡ refused_with 21 → A
        never (inl y) z = zero_one cc
        never (inr n) z = zero_one cc

    pub none_empty : empties_in h ≡ 0
    none_empty =
        by_test (eqb (empties_in h) 0) (λ e. eqb-true (empties_in h) 0 e)
        (λ e. let ne = eqb-false (empties_in h) 0 e in never v (((every_list h).verdict.waits (empties_in h)).1 (board_there_lem, omega arith, refl)))
      where
        never : {A : Type 0} → (verdict_in h ≡ yes_with c) ⊎ (verdict_in h ≡ no_with c) → verdict_in h ≡ waiting (empties_in h) → A
        never (inl y) z = zero_one cc
        never (inr n) z = zero_one cc

  module _ (a : Reply) (is : a ≡ judged (report_in h)) where
    -- the reply says what the verdict after the list is
    says : (v : Judgement) → Says a v ↔ (verdict_in h ≡ v)
    says v = (
      (λ s.
          let z : judged (report_in h) ≡ judged s.0 = sym is ∙ s.1 in
          let w : report_in h ≡ s.0 = cc in
          sym (every_list h).report.verdict ∙ ap (λ (r : Reported). r.verdict) w ∙ s.2),
      λ e. (report_in h, is, (every_list h).report.verdict ∙ e),
    )

    pub in_words : VerdictSays h a
    in_words =
        let law = (every_list h).verdict in
        record {
          is = is;
          says_yes_lem = λ count. Iff.trans (says (yes_with count)) (
            (λ e.
                let b = board_there_lem count (inl e) in
                let full = none_empty count (inl e) in
                let sum = law.counted count e in
                (b, full, sum, (law.accepts b full).0 (e ∙ ap yes_with sum))),
            λ x. (law.accepts x.0 x.1).1 x.3 ∙ ap yes_with (sym x.2),
          );
          says_no_lem = λ count. Iff.trans (says (no_with count)) (
            (λ e.
                let b = board_there_lem count (inr e) in
                let full = none_empty count (inr e) in
                let sum = law.counted_no count e in
                (b, full, sum, (law.rejects b full).0 (e ∙ ap no_with sum))),
            λ x. (law.rejects x.0 x.1).1 x.3 ∙ ap no_with (sym x.2),
          );
          says_waiting = λ e. Iff.trans (says (waiting e)) (law.waits e);
          says_refused = λ x. Iff.trans (says (refused_with x)) (
            (λ e.
                let n = refused_number (places_in h) (empties_in h) (yes_in h) (summed_in h) x e in
                (n, law.none_there.0 (e ∙ ap refused_with n))),
            λ y. law.none_there.1 y.1 ∙ ap refused_with (sym y.0),
          );
        }

-- the verdict that is asked after the calls `earlier` and before the calls `later`
pub verdict_at : (later earlier : List Call) (rs : List Reply) → rs ≡ replies_to (later ++ (asks_verdict ∷ earlier))
    → (a : Reply) × (get_elem? rs (length later) ≡ some a) × VerdictSays earlier a
verdict_at later earlier rs e = (
  judged (report_in earlier),
  ap (λ (x : List Reply). get_elem? x (length later)) e ∙ reply_at judge_machine later asks_verdict earlier ∙ ap some (answer_after earlier asks_verdict),
  in_words earlier (judged (report_in earlier)) refl,
)
