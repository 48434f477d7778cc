-- The one proof of all that specs/Claims.antt claims. Assumes nothing.
use mathlib.Core.Logic.{inr}
use Rattle.losses.specs.Claims.{Claims}
use Rattle.losses.proofs.Diagnosing.{diagnosis}
use Rattle.losses.proofs.Staying.{stays, stays_on, which, no_yes, no_yes_reply, yes_open, nothing_open, nothing_lost}

pub claims : Claims
claims = record {
  diagnosis = diagnosis;
  stays = λ h g p x r s. stays h g p r s x;
  stays_on = λ h cs p x e. stays_on h p cs x e;
  no_yes = no_yes;
  no_yes_reply = no_yes_reply;
  explained = λ h c n. which h c (inr n);
  yes_open = yes_open;
  nothing_open = nothing_open;
  nothing_lost = λ h w n e. nothing_lost h n w e;
}
