-- EVERY LIST OF CALLS, about the code that runs: the library of the judge's functions meets the
-- judge's definitions, so what the functions' own contracts allow after a list of calls is the
-- replies and the judge of `replies_to` and `judge_after`, and nothing else. Assumes nothing.
--
-- A contract is an equation for what the result says, which gives the one direction. For the other,
-- each answer type has a value that says what the definition wants.
use mathlib.Core.Path.{◌≡◌, refl, sym, ap, ap₂, ◌∙◌}
use mathlib.Core.Logic.{◌↔◌}
use mathlib.Core.Bool.{Bool, true, false, cond}
use mathlib.Core.List.{List, [], ◌∷◌, ◌++◌}
use mathlib.Core.Option.{Option, none, some}
use Prim.Native.Nat.{ℕ}
use lib.Dec.{eqb}
use denote.Ref.{Bor}
use Rattle.std.proofs.Common.{Ok, Err}
use Rattle.base.specs.declared.Refusal.{Refusal}
use Rattle.base.specs.declared.Refusal.TheVariants.{TooShort, TooLong, StateCount, SymbolCount, CutPairs, StrayState, BadPairs, BadArcs, TooManySets, PlaceCount, NoPlace, LongChunk, ForeignByte, NoRule, NoBoard, NotDue, EmptyPlace}
use Rattle.base.specs.Answers.{is_named, refusal_number}
use Rattle.base.specs.Conditions.{Condition, on, first_of}
use Rattle.executions.specs.Executions.{Execution, Meets}
use Rattle.executions.proofs.Executions.{execution_law}
use Rattle.automaton.specs.declared.Rule.{Rule}
use Rattle.ruleformat.specs.Reader.{rule_of}
use Rattle.build.specs.mirror.Building.{built_of}
use Rattle.rulecheck.specs.Checking.{rule_conditions}
use Rattle.ruleformat.specs.Refusals.{file_conditions}
use Rattle.board.specs.Boards.{places_of, is_empty, comes_late, empty_board, filled_at, cleared_at, empty_places, summed_count, summed_bytes}
use Rattle.calls.specs.declared.Judge.{Judge}
use Rattle.calls.specs.declared.InstallResult.{InstallResult}
use Rattle.calls.specs.declared.CallResult.{CallResult}
use Rattle.calls.specs.declared.DeliverResult.{DeliverResult}
use Rattle.calls.specs.declared.Report.{Report}
use Rattle.calls.specs.declared.Verdict.{Verdict}
use Rattle.calls.specs.declared.Verdict.TheVariants as verdict
use Rattle.calls.specs.Replies.{Judgement, waiting, yes_with, no_with, refused_with, refusal_in, Reported, Reply, accepted, refused, installed, judged, verdict_means, report_means, delivered, Outcome, install_outcome, call_outcome, deliver_outcome}
use Rattle.calls.specs.Calls.{Call, installs, loads, opens, delivers, withdraws, asks_verdict, many_sets, install_number, load_number, report_by, open_conditions, deliver_conditions, withdraw_conditions}
use Rattle.calls.specs.mirror.Steps.{lacks_rule, lacks_board, with_board, outcome_by, with_rule, runs_at, install_of, load_of, open_of, deliver_of, withdraw_of, is_yes, verdict_of, report_of, step_of}
use Rattle.judge.proofs.Asks.{new_judge_asks_nothing, install_asks_nothing, load_asks_nothing, open_asks_nothing, deliver_asks_nothing, withdraw_asks_nothing, verdict_asks_nothing}
use Rattle.histories.specs.Claims.{judge_machine, judge_after, replies_to}
use Rattle.histories.specs.Functions.{AsksStep, MayStep, judge_library}

-- ---- the number of a refusal, as a refusal
-- what is said of the number of each condition is said of the first's that holds
module _ (Said : ℕ → Type 0) where
  abbrev pub SaidOf : Option ℕ → Type 0
  SaidOf none = Unit {0}
  SaidOf (some x) = Said x

  abbrev pub SaidOfEach : List Condition → Type 0
  SaidOfEach [] = Unit {0}
  SaidOfEach (on number test ∷ cs) = Said number × SaidOfEach cs

  by_first : (number : ℕ) (test : Bool) (cs : List Condition) → Said number → SaidOf (first_of cs) → SaidOf (first_of (on number test ∷ cs))
  by_first number true cs a b = a
  by_first number false cs a b = b

  pub said_of_first : (cs : List Condition) → SaidOfEach cs → SaidOf (first_of cs)
  said_of_first [] n = tt
  said_of_first (on number test ∷ cs) n = by_first number test cs n.0 (said_of_first cs n.1)

-- the number is a refusal's
abbrev pub IsNumber : ℕ → Type 0
IsNumber x = (r : Refusal) × (refusal_number r ≡ x)

-- it is that of a refusal with a name
abbrev pub IsNamed : ℕ → Type 0
IsNamed x = (r : Refusal) × (refusal_number r ≡ x) × (is_named x ≡ true)

-- where there is a number, a refusal with a name has it
abbrev pub Answerable : Option ℕ → Type 0
Answerable = SaidOf IsNamed

-- the number of each condition is that of one
abbrev pub Numbered : List Condition → Type 0
Numbered = SaidOfEach IsNamed

pub answerable : (cs : List Condition) → Numbered cs → Answerable (first_of cs)
answerable = said_of_first IsNamed

pub has_number : (number : Option ℕ) → Answerable number → SaidOf IsNumber number
has_number none a = tt
has_number (some x) a = (a.0, a.1)

pub first_has_number : (cs : List Condition) → Numbered cs → SaidOf IsNumber (first_of cs)
first_has_number cs n = has_number (first_of cs) (answerable cs n)

-- ---- the outcome of a call, as a value of its answer type
module _ (j next : Judge) where
  an_installation : (number : Option ℕ) → SaidOf IsNumber number → (sets m : ℕ)
      → (r : InstallResult) × (install_outcome r ≡ outcome_by number (installed sets m) j next)
  an_installation none a sets m = (record { answer = Ok (record { sets = sets; starts = m }); judge = next }, refl)
  an_installation (some x) a sets m = (record { answer = Err a.0; judge = j }, ap (λ (y : ℕ). record { reply = refused y; state = j }) a.1)

  -- of opening and of withdrawing
  an_acceptance : (number : Option ℕ) → SaidOf IsNumber number → (r : CallResult) × (call_outcome r ≡ outcome_by number accepted j next)
  an_acceptance none a = (record { answer = Ok tt; judge = next }, refl)
  an_acceptance (some x) a = (record { answer = Err a.0; judge = j }, ap (λ (y : ℕ). record { reply = refused y; state = j }) a.1)

  a_delivery : (number : Option ℕ) → SaidOf IsNumber number → (looked : ℕ)
      → (r : DeliverResult) × (deliver_outcome r ≡ outcome_by number (delivered looked) j next)
  a_delivery none a looked = (record { answer = Ok looked; judge = next }, refl)
  a_delivery (some x) a looked = (record { answer = Err a.0; judge = j }, ap (λ (y : ℕ). record { reply = refused y; state = j }) a.1)

a_judgement : (v : Judgement) → SaidOf IsNumber (refusal_in v) → (x : Verdict) × (verdict_means x ≡ v)
a_judgement (waiting empty) a = (verdict.Waiting empty, refl)
a_judgement (yes_with count) a = (verdict.Yes count, refl)
a_judgement (no_with count) a = (verdict.No count, refl)
a_judgement (refused_with number) a = (verdict.Refused a.0, ap refused_with a.1)

a_report : (r : Reported) → SaidOf IsNumber (refusal_in r.verdict) → (x : Report) × (report_means x ≡ r)
a_report r a =
    let v = a_judgement r.verdict a in (
      record { verdict = v.0; bytes = r.bytes; quotient = r.quotient; remainder = r.remainder },
      ap (λ (w : Judgement). record { verdict = w; bytes = r.bytes; quotient = r.quotient; remainder = r.remainder }) v.1,
    )

-- a verdict is refused with 21 alone
answerable_verdict : (lacks none-empty says : Bool) (empty sum bytes : ℕ)
    → Answerable (refusal_in (report_by (cond lacks (refused_with 21) (cond none-empty (cond says (yes_with sum) (no_with sum)) (waiting empty))) bytes).verdict)
answerable_verdict true none-empty says empty sum bytes = (NoBoard, refl, refl)
answerable_verdict false false says empty sum bytes = tt
answerable_verdict false true true empty sum bytes = tt
answerable_verdict false true false empty sum bytes = tt

module _ (j : Judge) where
  installation_of : (rule : Rule) → (r : InstallResult) × (install_outcome r ≡ install_of j rule)
  unfolding install_of install_number
  installation_of rule =
      an_installation j (with_rule rule) (install_number rule)
      (first_has_number (rule_conditions rule ++ many_sets rule)
      ((StateCount, refl, refl), ((SymbolCount, refl, refl), ((StrayState, refl, refl), ((BadArcs, refl, refl), ((TooManySets, refl, refl), tt))))))
      (built_of rule).setcount
      (built_of rule).startcount

  loading_of : (f : List ℕ) → (r : InstallResult) × (install_outcome r ≡ load_of j f)
  unfolding load_of load_number
  loading_of f =
      let rule = rule_of f in
      an_installation j (with_rule rule) (load_number f)
      (first_has_number (file_conditions f ++ many_sets rule)
      ((TooShort, refl, refl), ((TooLong, refl, refl), ((StateCount, refl, refl), ((SymbolCount, refl, refl), ((CutPairs, refl, refl), ((StrayState, refl, refl), ((BadPairs, refl, refl), ((BadArcs, refl, refl), ((TooManySets, refl, refl), tt))))))))))
      (built_of rule).setcount
      (built_of rule).startcount

  opening_of : (n : ℕ) → (r : CallResult) × (call_outcome r ≡ open_of j n)
  unfolding open_of
  opening_of n =
      let cs = open_conditions (lacks_rule j) n in
      an_acceptance j (with_board j (empty_board n)) (first_of cs) (first_has_number cs ((NoRule, refl, refl), ((PlaceCount, refl, refl), tt)))

  delivery_of : (p v : ℕ) (w : List ℕ) → (r : DeliverResult) × (deliver_outcome r ≡ deliver_of j p v w)
  unfolding deliver_of
  delivery_of p v w =
      let cs = deliver_conditions (lacks_board j) (places_of j.board) p w j.built.k (comes_late j.board p v) in
      a_delivery j (with_board j (filled_at j.board p v (runs_at j p w))) (first_of cs)
      (first_has_number cs ((NoBoard, refl, refl), ((NoPlace, refl, refl), ((LongChunk, refl, refl), ((ForeignByte, refl, refl), ((NotDue, refl, refl), tt))))))
      (runs_at j p w).looked

  withdrawal_of : (p : ℕ) → (r : CallResult) × (call_outcome r ≡ withdraw_of j p)
  unfolding withdraw_of
  withdrawal_of p =
      let cs = withdraw_conditions (lacks_board j) (places_of j.board) p (is_empty j.board p) in
      an_acceptance j (with_board j (cleared_at j.board p)) (first_of cs) (first_has_number cs ((NoBoard, refl, refl), ((NoPlace, refl, refl), ((EmptyPlace, refl, refl), tt))))

  verdict_for : (x : Report) × (report_means x ≡ report_of j)
  unfolding verdict_of
  verdict_for =
      a_report (report_of j)
      (has_number (refusal_in (report_of j).verdict)
      (answerable_verdict (lacks_board j) (eqb (empty_places j.board) 0) (is_yes j) (empty_places j.board) (summed_count j.board) (summed_bytes j.board)))

-- ---- the library meets the machine
-- a reference to bytes, somewhere
abbrev pub lent : List ℕ → Bor (List ℕ)
lent f = record { ref_ptr = (0, 0); now = f }

-- an outcome is its reply and its state
pub parts : (a : Reply) (next : Judge) (o : Outcome) → record { reply = a; state = next } ≡ o → (a ≡ o.reply) × (next ≡ o.state)
parts a next o e = (ap (λ (x : Outcome). x.reply) e, ap (λ (x : Outcome). x.state) e)

pub whole : (a : Reply) (next : Judge) (o : Outcome) → (a ≡ o.reply) × (next ≡ o.state) → record { reply = a; state = next } ≡ o
whole a next o e = ap₂ (λ (x : Reply) (y : Judge). record { reply = x; state = y }) e.0 e.1

step_to : (j : Judge) (c : Call) (a : Reply) (next : Judge) → MayStep j c a next → (a ≡ (step_of j c).reply) × (next ≡ (step_of j c).state)
step_to j (installs rule) a next m = parts a next (install_of j rule) (m.2 ∙ m.1.1)
step_to j (loads f) a next m = parts a next (load_of j f) (m.2 ∙ m.1.4 ∙ ap (load_of j) m.1.3)
step_to j (opens n) a next m = parts a next (open_of j n) (m.2 ∙ m.1.1)
step_to j (delivers p v w) a next m = parts a next (deliver_of j p v w) (m.2 ∙ m.1.4 ∙ ap (deliver_of j p v) m.1.3)
step_to j (withdraws p) a next m = parts a next (withdraw_of j p) (m.2 ∙ m.1.1)
step_to j asks_verdict a next m = (m.2 ∙ ap judged m.1.1, m.3)

step_back : (j : Judge) (c : Call) (a : Reply) (next : Judge) → (a ≡ (step_of j c).reply) × (next ≡ (step_of j c).state) → MayStep j c a next
step_back j (installs rule) a next e =
    let r = installation_of j rule in
    (r.0, ((j, (rule, tt)), r.1), whole a next (install_of j rule) e ∙ sym r.1)
step_back j (loads f) a next e =
    let r = loading_of j f in
    (r.0, (([], tt), lent f, (j, (lent f, tt)), refl, r.1), whole a next (load_of j f) e ∙ sym r.1)
step_back j (opens n) a next e =
    let r = opening_of j n in
    (r.0, ((j, (n, tt)), r.1), whole a next (open_of j n) e ∙ sym r.1)
step_back j (delivers p v w) a next e =
    let r = delivery_of j p v w in
    (r.0, (([], tt), lent w, (j, (p, (v, (lent w, tt)))), refl, r.1), whole a next (deliver_of j p v w) e ∙ sym r.1)
step_back j (withdraws p) a next e =
    let r = withdrawal_of j p in
    (r.0, ((j, (p, tt)), r.1), whole a next (withdraw_of j p) e ∙ sym r.1)
step_back j asks_verdict a next e = let r = verdict_for j in (r.0, ((j, tt), r.1), e.0 ∙ ap judged (sym r.1), e.1)

asks_nothing : (j : Judge) (c : Call) → AsksStep j c
asks_nothing j (installs rule) = install_asks_nothing j rule
asks_nothing j (loads f) = λ κs c e. load_asks_nothing κs j c
asks_nothing j (opens n) = open_asks_nothing j n
asks_nothing j (delivers p v w) = λ κs c e. deliver_asks_nothing κs j p v c
asks_nothing j (withdraws p) = withdraw_asks_nothing j p
asks_nothing j asks_verdict = verdict_asks_nothing j

pub judge_meets : Meets judge_library judge_machine
judge_meets = record {
  new_asks_nothing = new_judge_asks_nothing;
  asks_nothing = asks_nothing;
  begins = λ j. ((λ m. m.1), λ e. (tt, e));
  steps = λ j c a next. (step_to j c a next, step_back j c a next);
}

-- ---- the theorem
pub after_any_list : (h : List Call) (replies : List Reply) (j : Judge)
    → Execution judge_library h replies j ↔ (replies ≡ replies_to h) × (j ≡ judge_after h)
after_any_list = execution_law judge_library judge_machine judge_meets
