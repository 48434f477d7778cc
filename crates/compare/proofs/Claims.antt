-- The one proof of all that specs/Claims.antt claims. Assumes nothing.
use Rattle.compare.specs.Claims.{Claims}
use Rattle.compare.proofs.Conditions.{passed}
use Rattle.compare.proofs.Answers as answers
use Rattle.compare.proofs.Exchange.{symmetric}
use Rattle.compare.proofs.Examples.{answered}

pub claims : Claims
claims = record {
  answered = answered;
  exactly = answers.exactly;
  numbers = answers.numbers;
  passed = passed;
  searched = answers.searched-is;
  either = answers.either;
  alike = answers.alike;
  named = answers.named;
  symmetric = symmetric;
  short = answers.short;
  value = answers.value;
  told = answers.told;
}
