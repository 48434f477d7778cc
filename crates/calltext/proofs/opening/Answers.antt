-- `opening` meets its contract. Assumes nothing.
use mathlib.Core.Path.{refl}
use borrow.Author.Rules.{rules}
use Rattle.calltext.proofs.Readings.{open_value, open_malformed}
use Rattle.calltext.proofs.opening.Goals as goal

pub returns-in-Some : goal.returns-in-Some
returns-in-Some c = (refl, λ w. search (rules, open_value))

pub returns-in-None : goal.returns-in-None
returns-in-None c = (refl, λ w. search (rules, open_malformed))
