-- The one proof of all that specs/Claims.antt claims. Assumes nothing.
use Rattle.chunks.proofs.Claims as chunks
use Rattle.joins.specs.Claims.{Claims}
use Rattle.joins.proofs.Clamped.{join_law, join_same}
use Rattle.joins.proofs.Delegated.{join_accepts}
use Rattle.joins.proofs.Counted.{place_most, count_most}

pub claims : Claims
claims = record {
  join = join_accepts chunks.claims;
  join_law = join_law;
  join_same = join_same;
  place_most = place_most chunks.claims;
  count_most = count_most chunks.claims;
}
