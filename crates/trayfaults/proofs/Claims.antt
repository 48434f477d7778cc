-- The one proof of all that specs/Claims.antt claims. Assumes nothing.
use Rattle.trayfaults.specs.Claims.{Claims}
use Rattle.faults.specs.Faulting.{column_at}
use Rattle.trayfaults.proofs.Examples.{answered}
use Rattle.trayfaults.proofs.Faulting.{fault}
use Rattle.trayfaults.proofs.Verdicts.{yes_exactly, no_exactly, accepts_nothing}
use Rattle.trayfaults.proofs.Staying.{stays}

pub claims : Claims
claims = record {
  answered = answered;
  fault = fault;
  no_exactly = no_exactly;
  yes_exactly = yes_exactly;
  accepts_nothing = accepts_nothing;
  stays = λ h g c b i e rule board bands right. stays h g b rule board bands c i ((fault h (column_at c b i)).0 e) right;
}
