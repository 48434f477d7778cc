-- specs/Functions.antt proved. Assumes nothing.
use mathlib.Core.Path.{sym, ap, ◌∙◌}
use Rattle.trayhistories.proofs.Refinement.{after_any_list}
use Rattle.faults.specs.Faulting.{fault_means, fault_of}
use Rattle.trayfaults.specs.Functions.{FunctionClaims}
use Rattle.trayfaults.proofs.Faulting as faulting

pub function_claims : FunctionClaims
function_claims = record {
  fault = λ h replies t e r m.
      let is = ((after_any_list h replies t).0 e).1 in
      (faulting.fault h (fault_means r)).0 (sym (m.1 ∙ ap fault_of is));
  fault_asks = λ t. tt;
}
