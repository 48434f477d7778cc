-- The one proof of all that specs/Claims.antt claims. Assumes nothing.
use Rattle.fields.specs.Claims.{Claims}
use Rattle.fields.proofs.RoundTrip.{number_round_trip, bytes_round_trip}
use Rattle.fields.proofs.Exact.{number_exactly, bytes_exactly}

pub claims : Claims
claims = record {
  number_round_trip = number_round_trip;
  bytes_round_trip = bytes_round_trip;
  number_exactly = number_exactly;
  bytes_exactly = bytes_exactly;
}
