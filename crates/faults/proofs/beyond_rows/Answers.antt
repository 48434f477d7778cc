-- `beyond_rows` meets its contract. Assumes nothing.
use Rattle.trays.specs.Boards.{band_in, is_empty}
use Rattle.faults.proofs.Ways.{fault_found, fault_open}
use Rattle.faults.proofs.beyond_rows.Goals as goal

pub returns-in-Some : goal.returns-in-Some
returns-in-Some c =
    let a = c.args in
    fault_found a.rule a.width (band_in a.width a.board.rows a.board.cells) (is_empty a.board) a.bands _
    c.before_empty-before.ensures.0 _ c.column_fault-found.ensures _ c.in-Some.is

pub returns-in-None : goal.returns-in-None
returns-in-None c =
    let a = c.args in
    fault_open a.rule a.width (band_in a.width a.board.rows a.board.cells) (is_empty a.board) a.bands _
    c.before_empty-before.ensures.0 _ c.column_fault-found.ensures c.in-None.is
