-- `delivery` meets its contract. Assumes nothing.
use native.Mathlib.Omega.{arith}
use borrow.Author.Rules.{rules}
use Rattle.calltext.proofs.Readings.{deliver_alone, deliver_on, deliver_malformed}
use Rattle.calltext.proofs.delivery.Goals as goal

pub returns-then-line-space : goal.returns-then-line-space
returns-then-line-space c = (omega arith, search (rules, deliver_alone))

pub returns-in-Some : goal.returns-in-Some
returns-in-Some c = (search rules, search (rules, deliver_on))

pub returns-in-None : goal.returns-in-None
returns-in-None c = (omega arith, search (rules, deliver_malformed))
