-- `load` meets its contract. Assumes nothing.
use Rattle.traylines.proofs.Loading.{file_unread, row_read, column_read}
use Rattle.traylines.proofs.load.Goals as goal

pub returns-in-Err : goal.returns-in-Err
returns-in-Err c = file_unread c.args.tray c.args.file.now c.args.rows c.in-Err.refusal c.in-Err.ensures

pub returns-then-rows : goal.returns-then-rows
returns-then-rows c = row_read c.args.tray c.args.file.now _ c.in-Ok.ensures _ c.if-rows.true c.install_row.ensures

pub returns-else-rows : goal.returns-else-rows
returns-else-rows c = column_read c.args.tray c.args.file.now _ c.in-Ok.ensures _ c.if-rows.false c.install_column.ensures
