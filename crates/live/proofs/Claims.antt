-- The one proof of all that specs/Claims.antt claims. Assumes nothing.
use Rattle.live.specs.Claims.{Claims}
use Rattle.live.proofs.Rounds.{live_law}
use Rattle.live.proofs.Hope.{hope, continued}

pub claims : Claims
claims = record {
  live = live_law;
  can_end = λ r good m v. let law = hope r good m v in (law.1, law.0);
  continued = continued;
}
