-- The contract of each function that C links fixes every number of its result, and those of a
-- refusal are zeros but for its number, with the judge that came. Assumes nothing.
use mathlib.Core.Path.{◌≡◌, refl, ap, ◌∙◌}
use mathlib.Core.Logic.{◌↔◌}
use mathlib.Core.List.{List, []}
use mathlib.Core.Option.{Option, none, some}
use Prim.Native.Nat.{ℕ}
use Rattle.base.proofs.Options.{none-some}
use Rattle.base.specs.Conditions.{first_of}
use Rattle.automaton.specs.declared.Rule.{Rule}
use Rattle.ruleformat.specs.Reader.{rule_of}
use Rattle.board.specs.Boards.{places_of, is_empty, comes_late, empty_board, filled_at, cleared_at, summed_bytes}
use Rattle.calls.specs.declared.Judge.{Judge}
use Rattle.calls.specs.Replies.{Judgement, Reply, accepted, delivered, refused, refusal_of}
use Rattle.calls.specs.Calls.{install_number, load_number, open_conditions, deliver_conditions, withdraw_conditions, report_by, with_sets}
use Rattle.calls.specs.mirror.Steps.{fresh, lacks_rule, lacks_board, with_board, outcome_by, with_rule, runs_at, install_of, load_of, open_of, deliver_of, withdraw_of, report_of}
use Rattle.histories.proofs.Refinement.{lent}
use Rattle.capi.specs.declared.InstallNumbers.{InstallNumbers}
use Rattle.capi.specs.declared.CallNumbers.{CallNumbers}
use Rattle.capi.specs.declared.DeliverNumbers.{DeliverNumbers}
use Rattle.capi.specs.declared.VerdictNumbers.{VerdictNumbers}
use Rattle.capi.specs.Numbers.{install_shown, call_shown, deliver_shown, verdict_shown}
use Rattle.demands.specs.Functions.{MayBegin, MayInstall, MayOpen, MayDeliver, MayWithdraw, MayJudge}
use Rattle.demands.specs.Shown.{RefusedFromC, NoVerdictFromC}
use Rattle.demands.proofs.Functions.{load_fixed}

-- ---- every number
pub new_fixed : (j : Judge) → MayBegin j ↔ j ≡ fresh
new_fixed j = ((λ m. m.1), λ e. (tt, e))

pub install_fixed : (j : Judge) (rule : Rule) (r : InstallNumbers) → MayInstall j rule r ↔ r ≡ install_shown (install_of j rule)
install_fixed j rule r = ((λ m. m.1), λ e. ((j, (rule, tt)), e))

pub open_fixed : (j : Judge) (n : ℕ) (r : CallNumbers) → MayOpen j n r ↔ r ≡ call_shown (open_of j n)
open_fixed j n r = ((λ m. m.1), λ e. ((j, (n, tt)), e))

pub deliver_fixed : (j : Judge) (p v : ℕ) (w : List ℕ) (r : DeliverNumbers) → MayDeliver j p v w r ↔ r ≡ deliver_shown (deliver_of j p v w)
deliver_fixed j p v w r = (
  (λ m. m.4 ∙ ap (λ (x : List ℕ). deliver_shown (deliver_of j p v x)) m.3),
  λ e. (([], tt), lent w, (j, (p, (v, (lent w, tt)))), refl, e),
)

pub withdraw_fixed : (j : Judge) (p : ℕ) (r : CallNumbers) → MayWithdraw j p r ↔ r ≡ call_shown (withdraw_of j p)
withdraw_fixed j p r = ((λ m. m.1), λ e. ((j, (p, tt)), e))

pub verdict_fixed : (j : Judge) (v : VerdictNumbers) → MayJudge j v ↔ v ≡ verdict_shown (report_of j)
verdict_fixed j v = ((λ m. m.1), λ e. ((j, tt), e))

-- ---- refusals
-- the outcome of a call whose reply has the number x, and would have none were it accepted
refused_by_lem : (number : Option ℕ) (a : Reply) (j next : Judge) (x : ℕ) → refusal_of a ≡ none
    → refusal_of (outcome_by number a j next).reply ≡ some x → outcome_by number a j next ≡ record { reply = refused x; state = j }
refused_by_lem none a j next x n e = none-some n e
refused_by_lem (some y) a j next x n e = ap (λ (z : ℕ). record { reply = refused z; state = j }) cc

module _ (j : Judge) (x : ℕ) where
  installing : (rule : Rule) → refusal_of (install_of j rule).reply ≡ some x → install_of j rule ≡ record { reply = refused x; state = j }
  unfolding install_of
  installing rule = refused_by_lem (install_number rule) (with_sets rule) j (with_rule rule) x refl

  loading : (f : List ℕ) → refusal_of (load_of j f).reply ≡ some x → load_of j f ≡ record { reply = refused x; state = j }
  unfolding load_of
  loading f = refused_by_lem (load_number f) (with_sets (rule_of f)) j (with_rule (rule_of f)) x refl

  opening : (n : ℕ) → refusal_of (open_of j n).reply ≡ some x → open_of j n ≡ record { reply = refused x; state = j }
  unfolding open_of
  opening n = refused_by_lem (first_of (open_conditions (lacks_rule j) n)) accepted j (with_board j (empty_board n)) x refl

  delivering : (p v : ℕ) (w : List ℕ) → refusal_of (deliver_of j p v w).reply ≡ some x → deliver_of j p v w ≡ record { reply = refused x; state = j }
  unfolding deliver_of
  delivering p v w =
      refused_by_lem (first_of (deliver_conditions (lacks_board j) (places_of j.board) p w j.built.k (comes_late j.board p v)))
      (delivered (runs_at j p w).looked)
      j
      (with_board j (filled_at j.board p v (runs_at j p w)))
      x
      refl

  withdrawing : (p : ℕ) → refusal_of (withdraw_of j p).reply ≡ some x → withdraw_of j p ≡ record { reply = refused x; state = j }
  unfolding withdraw_of
  withdrawing p =
      refused_by_lem (first_of (withdraw_conditions (lacks_board j) (places_of j.board) p (is_empty j.board p))) accepted j
      (with_board j (cleared_at j.board p))
      x
      refl

  pub refused_so : RefusedFromC j x
  refused_so = record {
    install = λ rule e r m. (install_fixed j rule r).0 m ∙ ap install_shown (installing rule e);
    load = λ f e r m. (load_fixed j f r).0 m ∙ ap install_shown (loading f e);
    opening = λ n e r m. (open_fixed j n r).0 m ∙ ap call_shown (opening n e);
    deliver = λ p v w e r m. (deliver_fixed j p v w r).0 m ∙ ap deliver_shown (delivering p v w e);
    withdraw = λ p e r m. (withdraw_fixed j p r).0 m ∙ ap call_shown (withdrawing p e);
  }

  pub no_verdict : NoVerdictFromC j x
  no_verdict =
      let shown : Judgement → VerdictNumbers = λ v. verdict_shown (report_by v (summed_bytes j.board)) in
      record {
        is_refused = λ e v m. (verdict_fixed j v).0 m ∙ ap shown e;
        waits = λ e v m. (verdict_fixed j v).0 m ∙ ap shown e;
      }
