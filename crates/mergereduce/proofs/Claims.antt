-- The one proof of all that specs/Claims.antt claims. Assumes nothing.
use Rattle.mergereduce.specs.Claims.{Claims}
use Rattle.mergereduce.proofs.Examples.{answered, beyond}
use Rattle.mergereduce.proofs.Law.{instead_law, pairs_law, refused_exactly, merge_reduced_law}

pub claims : Claims
claims = record { answered = answered; beyond = beyond; merging = merge_reduced_law; refused = refused_exactly; instead = instead_law; pairs = pairs_law }
