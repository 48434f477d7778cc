-- `delivery` meets its contract. Assumes nothing.
use Rattle.traytext.proofs.Readings.{deliver_alone, deliver_value, deliver_malformed}
use native.Mathlib.Omega.{arith}
use borrow.Author.Rules.{rules}
use Rattle.traytext.proofs.delivery.Goals as goal

pub returns-then-line-space : goal.returns-then-line-space
returns-then-line-space c = (omega arith, search (rules, deliver_alone))

pub returns-in-Some : goal.returns-in-Some
returns-in-Some c = (search rules, search (rules, deliver_value))

pub returns-in-None : goal.returns-in-None
returns-in-None c = (omega arith, search (rules, deliver_malformed))
