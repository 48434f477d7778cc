-- `table_of` meets its contract. Assumes nothing.
use mathlib.Core.Path.{refl, sym}
use borrow.Author.Rules.{rules}
use Rattle.formback.proofs.Ways.{accepted, refused}
use Rattle.formback.proofs.table_of.Goals as goal

pub fill-requires : goal.fill-requires
fill-requires c = (sym c.in_ok-check.ensures, refl)

pub returns : goal.returns
returns c = accepted c.args.form c.in_ok-check.ensures _ c.fill.ensures

pub returns-in_err-check : goal.returns-in_err-check
returns-in_err-check c = let e = refused c.args.form c.in_err-check.field-0.0 c.in_err-check.ensures in search (rules, e)
