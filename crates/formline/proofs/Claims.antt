-- The one proof of all that specs/Claims.antt claims. Assumes nothing.
use Rattle.formline.specs.Claims.{Claims}
use Rattle.formline.proofs.Examples.{worked_line}
use Rattle.formline.proofs.RoundTrip.{line_round_trip}
use Rattle.formline.proofs.Fields.{too_great_lem}
use Rattle.formline.proofs.Bounds.{bounded}
use Rattle.formline.proofs.Numbers.{any_numbers}

pub claims : Claims
claims = record {
  worked_line = worked_line;
  line_round_trip = line_round_trip;
  too_great_lem = too_great_lem;
  bounded = bounded;
  any_numbers = any_numbers;
}
