-- The proof of all that specs/Claims.antt claims. Assumes nothing.
use Rattle.base.specs.Claims.{Claims, RefusalClaims}
use Rattle.base.proofs.Conditions.{none_law, first_law}
use Rattle.base.proofs.Refusals.{any_number, named_or_other, name_alone}

pub claims : Claims
claims = record { none_law = none_law; first_law = first_law }

pub refusal_claims : RefusalClaims
refusal_claims = record { any_number = any_number; named_or_other = named_or_other; name_alone = name_alone }
