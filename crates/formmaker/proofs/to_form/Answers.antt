-- `to_form` meets its contract. Assumes nothing.
use borrow.Author.Rules.{rules}
use Rattle.formmaker.proofs.Making.{form_is}
use mathlib.Core.Path.{refl}
use native.Mathlib.Omega.{arith}
use Rattle.formmaker.proofs.to_form.Goals as goal

pub mark_sets-requires : goal.mark_sets-requires
mark_sets-requires c = (omega arith, omega arith, refl, refl)

pub pack-requires : goal.pack-requires
pack-requires c = (omega arith, refl)

pub returns : goal.returns
returns c = search (rules, form_is)
