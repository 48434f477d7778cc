-- `read_mapping` meets its contract. Assumes nothing.
use borrow.Author.Rules.{rules}
use Rattle.maptext.proofs.Reading.{not_sixteen, read_none, read_some}
use Rattle.maptext.proofs.read_mapping.Goals as goal

pub returns-then-field-ne16 : goal.returns-then-field-ne16
returns-then-field-ne16 c = not_sixteen c.args.field.now c.if-field-ne16.true

pub returns-in_err-read_bytes : goal.returns-in_err-read_bytes
returns-in_err-read_bytes c =
    let e = read_none c.args.field.now c.read_bytes.new.out c.if-field-ne16.false c.in_err-read_bytes.ensures in search (rules, e)

pub returns : goal.returns
returns c = read_some c.args.field.now c.read_bytes.new.out c.if-field-ne16.false _ c.in_ok-read_bytes.ensures
