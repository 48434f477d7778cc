-- The claims of specs/Claims.antt. Assumes nothing.
use Rattle.longlines.specs.Claims.{Claims}
use Rattle.longlines.proofs.Kept.{kept_none, kept_on, same_size}
use Rattle.longlines.proofs.Standing.{held_means}

pub claims : Claims
claims = record { begins = kept_none; goes_on = kept_on; same_size = same_size; means = held_means }
