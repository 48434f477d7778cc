-- specs/Functions.antt proved. Assumes nothing.
use mathlib.Core.Path.{sym, ap, ◌∙◌}
use mathlib.Core.List.{List}
use Prim.Native.Nat.{ℕ}
use Rattle.calls.specs.declared.Judge.{Judge}
use Rattle.diagnoses.specs.Diagnosing.{diagnosis_means, diagnosis_of}
use Rattle.locating.specs.Locating.{located_means, spot_of}
use Rattle.histories.proofs.Refinement.{after_any_list}
use Rattle.losses.specs.Functions.{FunctionClaims}
use Rattle.losses.proofs.Diagnosing.{diagnosis}
use Rattle.losses.proofs.Spots.{spot_claims}

pub function_claims : FunctionClaims
function_claims = record {
  diagnose = λ h replies j e r m.
      let is = ((after_any_list h replies j).0 e).1 in
      (diagnosis h (diagnosis_means r)).0 (sym (m.1 ∙ ap diagnosis_of is));
  locate = λ h replies j e p w r m.
      let is = ((after_any_list h replies j).0 e).1 in
      (spot_claims.spot h p w (located_means r)).0 (sym (m.4 ∙ ap (λ (v : List ℕ). spot_of j p v) m.3 ∙ ap (λ (k : Judge). spot_of k p w) is));
  diagnose_asks = λ j. tt;
  locate_asks = λ κs j p c. tt;
}
