-- `put_back` meets its contract. Assumes nothing.
use Rattle.tabletext.proofs.Whole.{table_text, refused_text_lem, bounds}
use Rattle.tabletext.proofs.put_back.Goals as goal

pub put_table-requires : goal.put_table-requires
put_table-requires c = let b = bounds c.args.form _ c.in-Ok.ensures in (b.0, b.1, b.2, c.requires)

pub returns-in-Ok : goal.returns-in-Ok
returns-in-Ok c = rw (← table_text c.args.form _ c.in-Ok.ensures) c.put_table.ensures

pub returns-in-Err : goal.returns-in-Err
returns-in-Err c = rw (← refused_text_lem c.args.form c.in-Err.refusal c.in-Err.ensures, ← c.number.ensures) c.put_refused.ensures
