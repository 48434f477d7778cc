-- The one proof of all that specs/Claims.antt claims. Assumes nothing.
use Rattle.products.specs.Claims.{Claims}
use Rattle.products.proofs.Interleavings.{by_marks}
use Rattle.products.proofs.Numbers.{left_of, right_of}
use Rattle.products.proofs.Pairs.{runs_law, texts_law, both_law, interleaving_law}
use Rattle.products.proofs.Sums.{either_law}
use Rattle.products.proofs.Words.{in_pairs, side_by_side}

pub claims : Claims
claims = record {
  by_marks = by_marks;
  members = λ n2 q1 q2 l. (left_of n2 q1 q2 l, right_of n2 q1 q2 l);
  in_pairs = in_pairs;
  side_by_side = side_by_side;
  runs = runs_law;
  texts = texts_law;
  both = both_law;
  interleaving = interleaving_law;
  either = either_law;
}
