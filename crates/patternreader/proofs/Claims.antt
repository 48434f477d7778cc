-- The proof of all that specs/Claims.antt claims. Assumes nothing.
use Rattle.base.proofs.Lists.{length_list_from}
use Rattle.patternreader.specs.Reader.{after_bytes, beginning, finished}
use Rattle.patternreader.specs.Claims.{Claims}
use Rattle.patternreader.proofs.Reader as reader
use Rattle.patternreader.proofs.Rules.{rule_of_lem}

pub claims : Claims
claims = record {
  positions = λ p b s short few. reader.positions b p s short few;
  rule = λ p b s short few.
      rule_of_lem (finished (after_bytes beginning b)) p few (length_list_from 0 32 _) (reader.positions b p s short few);
}
