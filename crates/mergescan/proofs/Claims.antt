-- The one proof of all that specs/Claims.antt claims. Assumes nothing.
use Rattle.mergescan.specs.Claims.{Claims}
use Rattle.mergescan.proofs.Lines.{whole, pieces}
use Rattle.mergescan.proofs.Clipped.{answered}
use Rattle.mergescan.proofs.Kept.{scans_on}

pub claims : Claims
claims = record { whole = whole; pieces = pieces; scans_on = scans_on; answered = answered }
