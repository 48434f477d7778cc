-- `location` meets its contract. Assumes nothing.
use native.Mathlib.Omega.{arith}
use Rattle.questions.proofs.Readings.{location_alone, location_malformed, location_value}
use borrow.Author.Rules.{rules}
use Rattle.questions.proofs.location.Goals as goal

pub returns-then-line-space : goal.returns-then-line-space
returns-then-line-space c = (omega arith, search (rules, location_alone))

pub returns-in_default : goal.returns-in_default
returns-in_default c = (omega arith, search (rules, location_malformed))

pub returns : goal.returns
returns c = (search rules, search (rules, location_value))
