-- The one proof of all that specs/Claims.antt claims. Assumes nothing.
use Rattle.reducing.specs.Claims.{Claims}
use Rattle.reducing.proofs.Law.{reduce_law}
use Rattle.reducing.proofs.Whole.{exactly, again_whole}
use Rattle.reducing.proofs.Examples.{answered, more_sets}

pub claims : Claims
claims = record {
  answered = answered;
  more_sets = more_sets;
  reducing = reduce_law;
  exactly = exactly;
  again_whole = again_whole;
}
