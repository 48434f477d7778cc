-- `put_field` meets its contract. Assumes nothing.
use borrow.Author.Rules.{rules}
use Rattle.maketextlines.proofs.Writing.{field-none, field_some}
use Rattle.maketextlines.proofs.put_field.Goals as goal

pub returns-then-bytes-eq0 : goal.returns-then-bytes-eq0
returns-then-bytes-eq0 c = search (rules, field-none)

pub returns : goal.returns
returns c = search (rules, field_some)
