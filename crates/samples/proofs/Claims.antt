-- The one proof of all that specs/Claims.antt claims. Assumes nothing.
use Rattle.samples.specs.Claims.{Claims}
use Rattle.samples.proofs.Answers as answers
use Rattle.samples.proofs.Examples.{answered}

pub claims : Claims
claims = record {
  answered = answered;
  exactly = answers.exactly;
  numbers = answers.numbers;
  short = answers.short;
  value = answers.value;
  told = answers.told;
  refused_alike = answers.refused_alike;
}
