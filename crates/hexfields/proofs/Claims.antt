-- The one proof of all that specs/Claims.antt claims. Assumes nothing.
use Rattle.hexfields.specs.Claims.{Claims}
use Rattle.hexfields.proofs.Fields.{whole}
use Rattle.hexfields.proofs.Kept.{reads_on, told}

pub claims : Claims
claims = record { whole = whole; reads_on = reads_on; told = told }
