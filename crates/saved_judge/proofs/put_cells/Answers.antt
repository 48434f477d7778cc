-- `put_cells` meets its contract. The loop's invariant: the numbers of the cells that are left are
-- to be written there. Assumes nothing.
use Rattle.saved_judge.proofs.Steps.{cells_begin, cells_room, cells_more, cells_done}
use Rattle.saved_judge.proofs.put_cells.Goals as goal

pub loop-cell-init : goal.loop-cell-init
loop-cell-init g c = cells_begin _ _ _ _ _ c.requires

pub put_little-at-requires : goal.put_little-at-requires
put_little-at-requires g c =
    let x = c.loop-cell in
    cells_room _ _ _ _ _ x.out x.at x.cell-index x.invariant _ _ _ c.loop-cell-test.true c.cell-item.is c.WIDTH.ensures c.wide.ensures

pub loop-cell-preserved : goal.loop-cell-preserved
loop-cell-preserved g c =
    let x = c.loop-cell in
    cells_more _ _ _ _ _ x.out x.at x.cell-index x.invariant _ _ _ c.loop-cell-test.true c.cell-item.is c.WIDTH.ensures c.wide.ensures
    c.put_little-at.ensures.0

pub shape_of-out : goal.shape_of-out
shape_of-out g c = c.loop-cell.invariant.goes.kept

pub returns : goal.returns
returns g c = let x = c.loop-cell in cells_done _ _ _ _ _ x.out x.at x.cell-index x.invariant c.loop-cell-test.false
