-- `opening` meets its contract. Assumes nothing.
use Rattle.traytext.proofs.Readings.{open_alone, open_first, open_value, open_second}
use mathlib.Core.Path.{refl}
use borrow.Author.Rules.{rules}
use Rattle.traytext.proofs.opening.Goals as goal

pub returns-then-line-space : goal.returns-then-line-space
returns-then-line-space c = (refl, search (rules, open_alone))

pub returns-in_default : goal.returns-in_default
returns-in_default c = (refl, search (rules, open_first))

pub returns-in-Some-read_number : goal.returns-in-Some-read_number
returns-in-Some-read_number c = (refl, search (rules, open_value))

pub returns-in-None : goal.returns-in-None
returns-in-None c = (refl, search (rules, open_second))
