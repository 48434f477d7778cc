-- The functions of a tray that C links meet the tray's definitions: a contract fixes every number of a
-- result, and what the numbers say can be read back. Assumes nothing.
use mathlib.Core.Path.{◌≡◌, refl, sym, ap, ◌∙◌, subst}
use mathlib.Core.Logic.{◌↔◌}
use mathlib.Core.List.{List, []}
use mathlib.Core.Option.{none}
use Prim.Native.Nat.{ℕ}
use Rattle.executions.specs.Executions.{Execution, Meets}
use Rattle.executions.proofs.Executions.{execution_law}
use Rattle.automaton.specs.declared.Rule.{Rule}
use Rattle.histories.proofs.Refinement.{lent}
use Rattle.trays.specs.declared.Tray.{Tray}
use Rattle.trays.specs.Replies.{Judgement, Reply, judged}
use Rattle.trays.specs.Calls.{Call, installs_row, installs_column, opens, delivers, withdraws, asks_verdict}
use Rattle.trays.specs.mirror.Steps.{install_row_of, install_column_of, open_of, deliver_of, withdraw_of, verdict_of, step_of}
use Rattle.trayhistories.specs.History.{board_there, empties_in, verdict_in, answers_to}
use Rattle.trayhistories.specs.Claims.{tray_machine, tray_after, replies_to, Invariant, AllStandingAccepted}
use Rattle.trayhistories.proofs.EveryList.{every_list}
use Rattle.trayhistories.proofs.Refinement.{parts, whole}
use Rattle.c_trays.specs.declared.InstallNumbers.{InstallNumbers}
use Rattle.c_trays.specs.declared.CallNumbers.{CallNumbers}
use Rattle.c_trays.specs.declared.VerdictNumbers.{VerdictNumbers}
use Rattle.c_trays.specs.Numbers.{install_shown, call_shown, kind_of, number_of, verdict_shown, install_read_back, call_read_back, verdict_read_back}
use Rattle.c_trays.proofs.ReadBack as c_trays
use Rattle.c_trays.proofs.Asks.{new_asks_nothing, install_row_asks_nothing, install_column_asks_nothing, open_asks_nothing, deliver_asks_nothing, withdraw_asks_nothing, verdict_asks_nothing}
use Rattle.requests.specs.TrayFunctions.{MayInstallRow, MayInstallColumn, MayOpen, MayDeliver, MayWithdraw, MayJudge, AsksStep, MayStep, tray_library_of_C}

-- ---- the numbers of each result
module _ (t : Tray) where
  pub row_fixed : (rule : Rule) (r : InstallNumbers) → MayInstallRow t rule r ↔ r ≡ install_shown (install_row_of t rule)
  row_fixed rule r = ((λ m. m.1), λ e. ((t, (rule, tt)), e))

  pub column_fixed : (rule : Rule) (r : InstallNumbers) → MayInstallColumn t rule r ↔ r ≡ install_shown (install_column_of t rule)
  column_fixed rule r = ((λ m. m.1), λ e. ((t, (rule, tt)), e))

  pub open_fixed : (w n : ℕ) (r : CallNumbers) → MayOpen t w n r ↔ r ≡ call_shown (open_of t w n)
  open_fixed w n r = ((λ m. m.1), λ e. ((t, (w, (n, tt))), e))

  pub deliver_fixed : (p : ℕ) (b : List ℕ) (r : CallNumbers) → MayDeliver t p b r ↔ r ≡ call_shown (deliver_of t p b)
  deliver_fixed p b r = (
    (λ m. m.4 ∙ ap (λ (x : List ℕ). call_shown (deliver_of t p x)) m.3),
    λ e. (([], tt), lent b, (t, (p, (lent b, tt))), refl, e),
  )

  pub withdraw_fixed : (p : ℕ) (r : CallNumbers) → MayWithdraw t p r ↔ r ≡ call_shown (withdraw_of t p)
  withdraw_fixed p r = ((λ m. m.1), λ e. ((t, (p, tt)), e))

  pub verdict_fixed : (v : VerdictNumbers) → MayJudge t v ↔ v ≡ verdict_shown (verdict_of t)
  verdict_fixed v = ((λ m. m.1), λ e. ((t, tt), e))

-- ---- the library meets the machine
step_to : (t : Tray) (c : Call) (a : Reply) (next : Tray) → MayStep t c a next → (a ≡ (step_of t c).reply) × (next ≡ (step_of t c).state)
step_to t (installs_row rule) a next m =
    parts a next (install_row_of t rule) (m.2 ∙ ap install_read_back ((row_fixed t rule m.0).0 m.1) ∙ (c_trays.claims).row_read_back t rule)
step_to t (installs_column rule) a next m =
    parts a next (install_column_of t rule) (m.2 ∙ ap install_read_back ((column_fixed t rule m.0).0 m.1) ∙ (c_trays.claims).column_read_back t rule)
step_to t (opens w n) a next m =
    parts a next (open_of t w n) (m.2 ∙ ap call_read_back ((open_fixed t w n m.0).0 m.1) ∙ (c_trays.claims).open_read_back t w n)
step_to t (delivers p b) a next m =
    parts a next (deliver_of t p b) (m.2 ∙ ap call_read_back ((deliver_fixed t p b m.0).0 m.1) ∙ (c_trays.claims).deliver_read_back_lem t p b)
step_to t (withdraws p) a next m =
    parts a next (withdraw_of t p) (m.2 ∙ ap call_read_back ((withdraw_fixed t p m.0).0 m.1) ∙ (c_trays.claims).withdraw_read_back t p)
step_to t asks_verdict a next m =
    (m.2 ∙ ap judged (ap verdict_read_back ((verdict_fixed t m.0).0 m.1) ∙ (c_trays.claims).verdict_read_back_lem (verdict_of t)), m.3)

step_back : (t : Tray) (c : Call) (a : Reply) (next : Tray) → (a ≡ (step_of t c).reply) × (next ≡ (step_of t c).state) → MayStep t c a next
step_back t (installs_row rule) a next e =
    let o = install_row_of t rule in
    (install_shown o, (row_fixed t rule (install_shown o)).1 refl, whole a next o e ∙ sym ((c_trays.claims).row_read_back t rule))
step_back t (installs_column rule) a next e =
    let o = install_column_of t rule in
    (install_shown o, (column_fixed t rule (install_shown o)).1 refl, whole a next o e ∙ sym ((c_trays.claims).column_read_back t rule))
step_back t (opens w n) a next e =
    let o = open_of t w n in
    (call_shown o, (open_fixed t w n (call_shown o)).1 refl, whole a next o e ∙ sym ((c_trays.claims).open_read_back t w n))
step_back t (delivers p b) a next e =
    let o = deliver_of t p b in
    (call_shown o, (deliver_fixed t p b (call_shown o)).1 refl, whole a next o e ∙ sym ((c_trays.claims).deliver_read_back_lem t p b))
step_back t (withdraws p) a next e =
    let o = withdraw_of t p in
    (call_shown o, (withdraw_fixed t p (call_shown o)).1 refl, whole a next o e ∙ sym ((c_trays.claims).withdraw_read_back t p))
step_back t asks_verdict a next e =
    let v = verdict_of t in
    (verdict_shown v, (verdict_fixed t (verdict_shown v)).1 refl, e.0 ∙ ap judged (sym ((c_trays.claims).verdict_read_back_lem v)), e.1)

asks_nothing : (t : Tray) (c : Call) → AsksStep t c
asks_nothing t (installs_row rule) = install_row_asks_nothing t rule
asks_nothing t (installs_column rule) = install_column_asks_nothing t rule
asks_nothing t (opens w n) = open_asks_nothing t w n
asks_nothing t (delivers p b) = λ κs c e. deliver_asks_nothing κs t p c
asks_nothing t (withdraws p) = withdraw_asks_nothing t p
asks_nothing t asks_verdict = verdict_asks_nothing t

pub c_meets : Meets tray_library_of_C tray_machine
c_meets = record {
  new_asks_nothing = new_asks_nothing;
  asks_nothing = asks_nothing;
  begins = λ t. ((λ m. m.1), λ e. (tt, e));
  steps = λ t c a next. (step_to t c a next, step_back t c a next);
}

-- ---- lists of calls
-- what a verdict of the kind k says
kind_says : (j : Judgement) (k : ℕ) → kind_of j ≡ k → j ≡ verdict_read_back (record { kind = k; number = number_of j })
kind_says j k e =
    sym ((c_trays.claims).verdict_read_back_lem j) ∙ ap (λ (x : ℕ). verdict_read_back (record { kind = x; number = number_of j })) e

pub after_any_list : (h : List Call) (rs : List Reply) (t : Tray)
    → Execution tray_library_of_C h rs t ↔ (rs ≡ replies_to h) × (t ≡ tray_after h)
after_any_list = execution_law tray_library_of_C tray_machine c_meets

pub made : (h : List Call) → Execution tray_library_of_C h (answers_to h) (tray_after h)
made h = (after_any_list h _ _).1 (sym (every_list h).correct, refl)

module _ (h : List Call) (rs : List Reply) (t : Tray) (ran : Execution tray_library_of_C h rs t) where
  pub replies : rs ≡ answers_to h
  replies = ((after_any_list h rs t).0 ran).0 ∙ (every_list h).correct

  pub state : Invariant h t
  state = subst (Invariant h) (sym ((after_any_list h rs t).0 ran).1) (every_list h).after

  module _ (v : VerdictNumbers) where
    pub asked : MayJudge t v ↔ v ≡ verdict_shown (verdict_in h)
    asked = (
      (λ m. (verdict_fixed t v).0 m ∙ ap verdict_shown state.asked),
      λ e. (verdict_fixed t v).1 (e ∙ ap verdict_shown (sym state.asked)),
    )

    module _ (m : MayJudge t v) (there : board_there h ≡ none → ⊥) (full : empties_in h ≡ 0) where
      told : v.kind ≡ kind_of (verdict_in h)
      told = ap (λ (x : VerdictNumbers). x.kind) (asked.0 m)

      pub yes : (v.kind ≡ 2) ↔ AllStandingAccepted h
      yes =
          let law = (every_list h).verdict.accepts there full in
          ((λ e. law.0 (kind_says (verdict_in h) 2 (sym told ∙ e))), λ all. told ∙ ap kind_of (law.1 all))

      pub no : (v.kind ≡ 3) ↔ (AllStandingAccepted h → ⊥)
      no =
          let law = (every_list h).verdict.rejects there full in
          ((λ e. law.0 (kind_says (verdict_in h) 3 (sym told ∙ e))), λ not-all. told ∙ ap kind_of (law.1 not-all))
