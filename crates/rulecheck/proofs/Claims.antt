-- The proof of all that specs/Claims.antt claims. Assumes nothing.
use Rattle.rulecheck.specs.Claims.{Claims}
use Rattle.rulecheck.proofs.Examples.{answered}
use Rattle.rulecheck.proofs.Laws.{passes, refused}

pub claims : Claims
claims = record { answered = answered; passes = passes; refused = refused }
