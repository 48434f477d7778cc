-- The one proof of all that specs/Claims.antt claims. Assumes nothing.
use Rattle.compositions.specs.Claims.{Claims}
use Rattle.compositions.proofs.Bracketing as bracketing
use Rattle.compositions.proofs.Relations as relations

pub claims : Claims
claims = record {
  folds = bracketing.folds;
  bracketing = bracketing.bracketing;
  bracketed = bracketing.bracketed;
  some_leaf = bracketing.some_leaf;
  members = relations.members;
  images = relations.images;
  associative = relations.associative;
}
