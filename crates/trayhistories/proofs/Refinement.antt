-- EVERY LIST OF A TRAY'S CALLS, about the code that runs: the library of the tray's functions meets
-- the tray's definitions, so what the functions' own contracts allow after a list of calls is the
-- replies and the tray of `replies_to` and `tray_after`, and nothing else. Assumes nothing.
--
-- A contract is an equation for what the result says, which gives the one direction. For the other,
-- each answer type has a value that says what the definition wants.
use mathlib.Core.Path.{◌≡◌, refl, sym, ap, ap₂, ◌∙◌, subst}
use mathlib.Core.Logic.{◌↔◌}
use mathlib.Core.Bool.{Bool, true, false, cond, not}
use mathlib.Core.List.{List, [], ◌++◌}
use mathlib.Core.Option.{Option, none, some}
use Prim.Native.Nat.{ℕ}
use lib.Dec.{eqb}
use Rattle.std.proofs.Common.{Ok, Err}
use Rattle.base.specs.declared.Refusal.TheVariants.{StateCount, SymbolCount, StrayState, BadArcs, TooManySets, PlaceCount, NoPlace, ForeignByte, NoRule, NoBoard, NotDue, EmptyPlace, Width, NotRows}
use Rattle.base.specs.Conditions.{first_of}
use Rattle.executions.specs.Executions.{Execution, Meets}
use Rattle.executions.proofs.Executions.{execution_law}
use Rattle.automaton.specs.declared.Rule.{Rule}
use Rattle.build.specs.mirror.Building.{built_of}
use Rattle.rulecheck.specs.Checking.{rule_conditions}
use Rattle.calls.specs.Calls.{many_sets, install_number}
use Rattle.histories.proofs.Refinement.{SaidOf, IsNumber, Answerable, answerable, has_number, first_has_number, lent}
use Rattle.trays.specs.declared.Tray.{Tray}
use Rattle.trays.specs.declared.InstallResult.{InstallResult}
use Rattle.trays.specs.declared.CallResult.{CallResult}
use Rattle.trays.specs.declared.TrayVerdict.{TrayVerdict}
use Rattle.trays.specs.declared.TrayVerdict.TheVariants as verdict
use Rattle.trays.specs.Replies.{Judgement, waiting, says_yes, says_no, refused_with, refusal_in, Reply, accepted, refused, installed, judged, verdict_means}
use Rattle.trays.specs.Calls.{Call, installs_row, installs_column, opens, delivers, withdraws, asks_verdict, open_conditions, deliver_conditions, withdraw_conditions}
use Rattle.trays.specs.Boards.{width_of, bands_of, is_empty, empty_board, filled_at, cleared_at, empty_bands}
use Rattle.trays.specs.mirror.Steps.{Outcome, lacks_rule, lacks_board, with_board, install_outcome, call_outcome, outcome_by, with_row, with_column, install_row_of, install_column_of, open_of, deliver_of, withdraw_of, is_yes, verdict_of, step_of}
use Rattle.traycalls.proofs.Asks.{new_tray_asks_nothing, install_row_asks_nothing, install_column_asks_nothing, open_asks_nothing, deliver_asks_nothing, withdraw_asks_nothing, verdict_asks_nothing}
use Rattle.trayhistories.specs.Claims.{tray_machine, tray_after, replies_to, Invariant}
use Rattle.trayhistories.specs.Functions.{AsksStep, MayStep, tray_library, EveryRun}
use Rattle.trayhistories.proofs.EveryList.{every_list}

-- ---- the outcome of a call, as a value of its answer type
module _ (t next : Tray) where
  an_installation : (number : Option ℕ) → SaidOf IsNumber number → (sets m : ℕ)
      → (r : InstallResult) × (install_outcome r ≡ outcome_by number (installed sets m) t next)
  an_installation none a sets m = (record { answer = Ok (record { sets = sets; starts = m }); tray = next }, refl)
  an_installation (some x) a sets m = (record { answer = Err a.0; tray = t }, ap (λ (y : ℕ). record { reply = refused y; state = t }) a.1)

  a_call : (number : Option ℕ) → SaidOf IsNumber number → (r : CallResult) × (call_outcome r ≡ outcome_by number accepted t next)
  a_call none a = (record { answer = Ok tt; tray = next }, refl)
  a_call (some x) a = (record { answer = Err a.0; tray = t }, ap (λ (y : ℕ). record { reply = refused y; state = t }) a.1)

a_judgement : (v : Judgement) → SaidOf IsNumber (refusal_in v) → (x : TrayVerdict) × (verdict_means x ≡ v)
a_judgement (waiting empty) a = (verdict.Waiting empty, refl)
a_judgement says_yes a = (verdict.Yes, refl)
a_judgement says_no a = (verdict.No, refl)
a_judgement (refused_with number) a = (verdict.Refused a.0, ap refused_with a.1)

-- a verdict is refused with 21 alone
answerable_verdict : (lacks none-empty says : Bool) (empty : ℕ)
    → Answerable (refusal_in (cond lacks (refused_with 21) (cond none-empty (cond says says_yes says_no) (waiting empty))))
answerable_verdict true none-empty says empty = (NoBoard, refl, refl)
answerable_verdict false false says empty = tt
answerable_verdict false true true empty = tt
answerable_verdict false true false empty = tt

module _ (t : Tray) where
  -- what an installation of the rule may be refused with
  answerable_rule : (rule : Rule) → Answerable (install_number rule)
  unfolding install_number
  answerable_rule rule =
      answerable (rule_conditions rule ++ many_sets rule) ((StateCount, refl, refl), ((SymbolCount, refl, refl), ((StrayState, refl, refl), ((BadArcs, refl, refl), ((TooManySets, refl, refl), tt)))))

  row_of_lem : (rule : Rule) → (r : InstallResult) × (install_outcome r ≡ install_row_of t rule)
  unfolding install_row_of
  row_of_lem rule =
      an_installation t (with_row t rule) (install_number rule) (has_number (install_number rule) (answerable_rule rule)) (built_of rule).setcount (built_of rule).startcount

  column_of_lem : (rule : Rule) → (r : InstallResult) × (install_outcome r ≡ install_column_of t rule)
  unfolding install_column_of
  column_of_lem rule =
      an_installation t (with_column t rule) (install_number rule) (has_number (install_number rule) (answerable_rule rule)) (built_of rule).setcount (built_of rule).startcount

  opening_of : (w n : ℕ) → (r : CallResult) × (call_outcome r ≡ open_of t w n)
  unfolding open_of
  opening_of w n =
      let cs = open_conditions (lacks_rule t) w n in
      a_call t (with_board t (empty_board w n)) (first_of cs) (first_has_number cs ((NoRule, refl, refl), ((Width, refl, refl), ((PlaceCount, refl, refl), tt))))

  delivery_of : (p : ℕ) (b : List ℕ) → (r : CallResult) × (call_outcome r ≡ deliver_of t p b)
  unfolding deliver_of
  delivery_of p b =
      let cs = deliver_conditions (lacks_board t) (bands_of t.board) (width_of t.board) t.row.k t.column.k (not (is_empty t.board p)) p b in
      a_call t (with_board t (filled_at t.board p b)) (first_of cs)
      (first_has_number cs ((NoBoard, refl, refl), ((NoPlace, refl, refl), ((NotRows, refl, refl), ((ForeignByte, refl, refl), ((NotDue, refl, refl), tt))))))

  withdrawal_of : (p : ℕ) → (r : CallResult) × (call_outcome r ≡ withdraw_of t p)
  unfolding withdraw_of
  withdrawal_of p =
      let cs = withdraw_conditions (lacks_board t) (bands_of t.board) (is_empty t.board p) p in
      a_call t (with_board t (cleared_at t.board p)) (first_of cs) (first_has_number cs ((NoBoard, refl, refl), ((NoPlace, refl, refl), ((EmptyPlace, refl, refl), tt))))

  verdict_for : (x : TrayVerdict) × (verdict_means x ≡ verdict_of t)
  unfolding verdict_of
  verdict_for =
      a_judgement (verdict_of t)
      (has_number (refusal_in (verdict_of t)) (answerable_verdict (lacks_board t) (eqb (empty_bands t.board) 0) (is_yes t) (empty_bands t.board)))

-- ---- the library meets the machine
-- an outcome is its reply and its state
pub parts : (a : Reply) (next : Tray) (o : Outcome) → record { reply = a; state = next } ≡ o → (a ≡ o.reply) × (next ≡ o.state)
parts a next o e = (ap (λ (x : Outcome). x.reply) e, ap (λ (x : Outcome). x.state) e)

pub whole : (a : Reply) (next : Tray) (o : Outcome) → (a ≡ o.reply) × (next ≡ o.state) → record { reply = a; state = next } ≡ o
whole a next o e = ap₂ (λ (x : Reply) (y : Tray). record { reply = x; state = y }) e.0 e.1

step_to : (t : Tray) (c : Call) (a : Reply) (next : Tray) → MayStep t c a next → (a ≡ (step_of t c).reply) × (next ≡ (step_of t c).state)
step_to t (installs_row rule) a next m = parts a next (install_row_of t rule) (m.2 ∙ m.1.1)
step_to t (installs_column rule) a next m = parts a next (install_column_of t rule) (m.2 ∙ m.1.1)
step_to t (opens w n) a next m = parts a next (open_of t w n) (m.2 ∙ m.1.1)
step_to t (delivers p b) a next m = parts a next (deliver_of t p b) (m.2 ∙ m.1.4 ∙ ap (deliver_of t p) m.1.3)
step_to t (withdraws p) a next m = parts a next (withdraw_of t p) (m.2 ∙ m.1.1)
step_to t asks_verdict a next m = (m.2 ∙ ap judged m.1.1, m.3)

step_back : (t : Tray) (c : Call) (a : Reply) (next : Tray) → (a ≡ (step_of t c).reply) × (next ≡ (step_of t c).state) → MayStep t c a next
step_back t (installs_row rule) a next e =
    let r = row_of_lem t rule in
    (r.0, ((t, (rule, tt)), r.1), whole a next (install_row_of t rule) e ∙ sym r.1)
step_back t (installs_column rule) a next e =
    let r = column_of_lem t rule in
    (r.0, ((t, (rule, tt)), r.1), whole a next (install_column_of t rule) e ∙ sym r.1)
step_back t (opens w n) a next e =
    let r = opening_of t w n in
    (r.0, ((t, (w, (n, tt))), r.1), whole a next (open_of t w n) e ∙ sym r.1)
step_back t (delivers p b) a next e =
    let r = delivery_of t p b in
    (r.0, (([], tt), lent b, (t, (p, (lent b, tt))), refl, r.1), whole a next (deliver_of t p b) e ∙ sym r.1)
step_back t (withdraws p) a next e =
    let r = withdrawal_of t p in
    (r.0, ((t, (p, tt)), r.1), whole a next (withdraw_of t p) e ∙ sym r.1)
step_back t asks_verdict a next e = let r = verdict_for t in (r.0, ((t, tt), r.1), e.0 ∙ ap judged (sym r.1), e.1)

asks_nothing : (t : Tray) (c : Call) → AsksStep t c
asks_nothing t (installs_row rule) = install_row_asks_nothing t rule
asks_nothing t (installs_column rule) = install_column_asks_nothing t rule
asks_nothing t (opens w n) = open_asks_nothing t w n
asks_nothing t (delivers p b) = λ κs c e. deliver_asks_nothing κs t p c
asks_nothing t (withdraws p) = withdraw_asks_nothing t p
asks_nothing t asks_verdict = verdict_asks_nothing t

pub tray_meets : Meets tray_library tray_machine
tray_meets = record {
  new_asks_nothing = new_tray_asks_nothing;
  asks_nothing = asks_nothing;
  begins = λ t. ((λ m. m.1), λ e. (tt, e));
  steps = λ t c a next. (step_to t c a next, step_back t c a next);
}

-- ---- the theorem
pub after_any_list : (h : List Call) (replies : List Reply) (t : Tray)
    → Execution tray_library h replies t ↔ (replies ≡ replies_to h) × (t ≡ tray_after h)
after_any_list = execution_law tray_library tray_machine tray_meets

pub every_run : (h : List Call) → EveryRun h
every_run h = record {
  made = (after_any_list h _ _).1 (sym (every_list h).correct, refl);
  asks_nothing = asks_nothing (tray_after h);
  replies = λ rs t ran. ((after_any_list h rs t).0 ran).0 ∙ (every_list h).correct;
  state = λ rs t ran. subst (Invariant h) (sym ((after_any_list h rs t).0 ran).1) (every_list h).after;
}
