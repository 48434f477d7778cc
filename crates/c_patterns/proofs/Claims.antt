-- The proof of all that specs/Claims.antt claims. Assumes nothing.
use mathlib.Core.Path.{refl}
use Rattle.flags.proofs.Flags as flags
use Rattle.patternfile.specs.Answers.{pattern_of}
use Rattle.c_patterns.specs.Claims.{Claims}
use Rattle.c_patterns.proofs.Numbers as numbers

pub claims : Claims
claims = record {
  flags = λ o. (flags.claims).flags o.number;
  file = λ o. (refl, refl);
  read_back = λ b. numbers.read_back (pattern_of b);
}
