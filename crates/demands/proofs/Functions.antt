-- The library of the functions that C links meets the judge's definitions: a contract fixes every
-- number of a result, and what the numbers say can be read back. Assumes nothing.
use mathlib.Core.Path.{◌≡◌, refl, sym, ap, ◌∙◌}
use mathlib.Core.Logic.{◌↔◌}
use mathlib.Core.List.{List, []}
use Prim.Native.Nat.{ℕ}
use Rattle.executions.specs.Executions.{Meets}
use Rattle.calls.specs.declared.Judge.{Judge}
use Rattle.calls.specs.Replies.{Reply, judged}
use Rattle.calls.specs.Calls.{Call, installs, loads, opens, delivers, withdraws, asks_verdict}
use Rattle.calls.specs.mirror.Steps.{install_of, load_of, open_of, deliver_of, withdraw_of, report_of, step_of}
use Rattle.histories.specs.Claims.{judge_machine}
use Rattle.histories.proofs.Refinement.{lent, parts, whole}
use Rattle.replay.specs.Records.{record_in, replay_of}
use Rattle.ruleformat.specs.Reader.{read_of}
use Rattle.capi.specs.declared.ReadNumbers.{ReadNumbers}
use Rattle.capi.specs.declared.InstallNumbers.{InstallNumbers}
use Rattle.capi.specs.declared.ReplayNumbers.{ReplayNumbers}
use Rattle.capi.specs.Numbers.{replay_shown, read_shown, install_shown, call_shown, deliver_shown, verdict_shown, install_read_back, call_read_back, deliver_read_back, verdict_read_back}
use Rattle.capi.proofs.ReadBack as capi
use Rattle.capi.proofs.Asks.{new_asks_nothing, install_asks_nothing, load_asks_nothing, open_asks_nothing, deliver_asks_nothing, withdraw_asks_nothing, verdict_asks_nothing}
use Rattle.demands.specs.Functions.{AsksStep, MayStep, MayRead, MayLoad, MayReplay, c_library}

-- every number that a load gives is fixed
pub load_fixed : (j : Judge) (f : List ℕ) (r : InstallNumbers) → MayLoad j f r ↔ r ≡ install_shown (load_of j f)
load_fixed j f r = (
  (λ m. m.4 ∙ ap (λ (x : List ℕ). install_shown (load_of j x)) m.3),
  λ e. (([], tt), lent f, (j, (lent f, tt)), refl, e),
)

step_to : (j : Judge) (c : Call) (a : Reply) (next : Judge) → MayStep j c a next → (a ≡ (step_of j c).reply) × (next ≡ (step_of j c).state)
step_to j (installs rule) a next m = parts a next (install_of j rule) (m.2 ∙ ap install_read_back m.1.1 ∙ (capi.claims).install_read_back_lem j rule)
step_to j (loads f) a next m =
    parts a next (load_of j f) (m.2 ∙ ap install_read_back ((load_fixed j f m.0).0 m.1) ∙ (capi.claims).load_read_back j f)
step_to j (opens n) a next m = parts a next (open_of j n) (m.2 ∙ ap call_read_back m.1.1 ∙ (capi.claims).open_read_back j n)
step_to j (delivers p v w) a next m =
    parts a next (deliver_of j p v w)
    (m.2 ∙ ap deliver_read_back (m.1.4 ∙ ap (λ (x : List ℕ). deliver_shown (deliver_of j p v x)) m.1.3) ∙ (capi.claims).deliver_read_back_lem j p v w)
step_to j (withdraws p) a next m = parts a next (withdraw_of j p) (m.2 ∙ ap call_read_back m.1.1 ∙ (capi.claims).withdraw_read_back j p)
step_to j asks_verdict a next m = (m.2 ∙ ap judged (ap verdict_read_back m.1.1 ∙ (capi.claims).verdict_read_back_lem j), m.3)

step_back : (j : Judge) (c : Call) (a : Reply) (next : Judge) → (a ≡ (step_of j c).reply) × (next ≡ (step_of j c).state) → MayStep j c a next
step_back j (installs rule) a next e =
    (install_shown (install_of j rule), ((j, (rule, tt)), refl), whole a next (install_of j rule) e ∙ sym ((capi.claims).install_read_back_lem j rule))
step_back j (loads f) a next e = (
  install_shown (load_of j f),
  (load_fixed j f (install_shown (load_of j f))).1 refl,
  whole a next (load_of j f) e ∙ sym ((capi.claims).load_read_back j f),
)
step_back j (opens n) a next e = (call_shown (open_of j n), ((j, (n, tt)), refl), whole a next (open_of j n) e ∙ sym ((capi.claims).open_read_back j n))
step_back j (delivers p v w) a next e = (
  deliver_shown (deliver_of j p v w),
  (([], tt), lent w, (j, (p, (v, (lent w, tt)))), refl, refl),
  whole a next (deliver_of j p v w) e ∙ sym ((capi.claims).deliver_read_back_lem j p v w),
)
step_back j (withdraws p) a next e =
    (call_shown (withdraw_of j p), ((j, (p, tt)), refl), whole a next (withdraw_of j p) e ∙ sym ((capi.claims).withdraw_read_back j p))
step_back j asks_verdict a next e = (verdict_shown (report_of j), ((j, tt), refl), e.0 ∙ ap judged (sym ((capi.claims).verdict_read_back_lem j)), e.1)

asks_nothing : (j : Judge) (c : Call) → AsksStep j c
asks_nothing j (installs rule) = install_asks_nothing j rule
asks_nothing j (loads f) = λ κs c e. load_asks_nothing κs j c
asks_nothing j (opens n) = open_asks_nothing j n
asks_nothing j (delivers p v w) = λ κs c e. deliver_asks_nothing κs j p v c
asks_nothing j (withdraws p) = withdraw_asks_nothing j p
asks_nothing j asks_verdict = verdict_asks_nothing j

pub c_meets : Meets c_library judge_machine
c_meets = record {
  new_asks_nothing = new_asks_nothing;
  asks_nothing = asks_nothing;
  begins = λ j. ((λ m. m.1), λ e. (tt, e));
  steps = λ j c a next. (step_to j c a next, step_back j c a next);
}

-- what reading a file and a recorded list come to is fixed too
pub read_fixed : (f : List ℕ) (r : ReadNumbers) → MayRead f r ↔ r ≡ read_shown (read_of f)
read_fixed f r = (
  (λ m. m.4 ∙ ap (λ (x : List ℕ). read_shown (read_of x)) m.3),
  λ e. (([], tt), lent f, (lent f, tt), refl, e),
)

pub replay_fixed : (text : List ℕ) (r : ReplayNumbers) → MayReplay text r ↔ r ≡ replay_shown (replay_of (record_in text))
replay_fixed text r = (
  (λ m. m.4 ∙ ap (λ (x : List ℕ). replay_shown (replay_of (record_in x))) m.3),
  λ e. (([], tt), lent text, (lent text, tt), refl, e),
)
